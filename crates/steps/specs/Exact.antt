-- The same present value without rounding: document 01, 'One year's step', its last paragraph. Definitions only.
use Rattle.std.specs.Prelude.{ℕ, ◌*◌, ◌/◌, ◌^◌, ◌≡◌}
use Rattle.steps.specs.Step.{repeated}
use Rattle.steps.specs.Payment.{Payment}

-- not reduced: a step multiplies both
pub record Fraction : Type 0 where
  pub numerator : ℕ
  pub denominator : ℕ

-- e / D
infix 10 ◌over◌
abbrev pub ◌over◌ : (e D : ℕ) → Fraction
e over D = record { numerator = e; denominator = D }

-- a fraction × n / d
unfoldable pub scaled : (n d : ℕ) → Fraction → Fraction
scaled n d x = x.numerator * n over x.denominator * d

-- the two steps, by the same products and quotients
unfoldable pub exact_plain : (grow discount : ℕ) → Fraction → Fraction
exact_plain grow discount x = scaled grow discount x

unfoldable pub exact_in_service : (grow age discount : ℕ) → Fraction → Fraction
exact_in_service grow age discount x = exact_plain grow discount (scaled age 1_000_000 x)

-- a payment's present value as a fraction
unfoldable pub unrounded : (discount : ℕ) → Payment → Fraction
unrounded discount p =
    repeated p.served (exact_in_service p.grow p.age discount)
    (repeated p.plainly (exact_plain p.grow discount) (p.amount * 10_000 over 1))

-- document 01's common denominator, 10^(6T) × (10^6 + r)^T
unfoldable pub common : (horizon discount : ℕ) → ℕ
common horizon discount = 10 ^ (6 * horizon) * discount ^ horizon

-- a payment's present value over the common denominator: a whole number, as `Whole` says
unfoldable pub exact : (horizon discount : ℕ) → Payment → ℕ
exact horizon discount p =
    let x = unrounded discount p in
    x.numerator * (common horizon discount / x.denominator)

-- over the common denominator the exact value is the fraction: the division leaves no rest
abbrev pub Whole : (horizon discount : ℕ) → Payment → Type 0
Whole horizon discount p =
    let x = unrounded discount p in
    exact horizon discount p * x.denominator ≡ x.numerator * common horizon discount
