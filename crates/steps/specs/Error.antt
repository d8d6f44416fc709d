-- How far the rounded value of a payment may lie from the exact one. Definitions only.
use Rattle.std.specs.Prelude.{ℕ, ◌+◌, ◌*◌, ◌≤◌}
use Rattle.steps.specs.Step.{above, below}
use Rattle.steps.specs.Payment.{Payment, rounded}
use Rattle.steps.specs.Exact.{Fraction, unrounded}

-- x lies above y by at most W roundings, each of `side` halves of a unit
abbrev pub ExceedsAtMost : (side x y W : ℕ) → Type 0
ExceedsAtMost side x y W = 2 * x ≤ 2 * y + side * W

-- A rounded amount lies at most W roundings from a fraction, W counted over the fraction's denominator: each at most `above` halves of a unit
-- above it and `below` halves below.
pub record Near (a : ℕ) (x : Fraction) (W : ℕ) : Type 0 where
  pub high : ExceedsAtMost above (a * x.denominator) x.numerator W
  pub low : ExceedsAtMost below x.numerator (a * x.denominator) W

-- the same for w roundings, whatever the denominator
abbrev pub NearBy : (a : ℕ) (x : Fraction) (w : ℕ) → Type 0
NearBy a x w = Near a x (w * x.denominator)

-- how often a payment is rounded: once in each plain step, twice in each step in service
unfoldable pub roundings : Payment → ℕ
roundings p = p.plainly + 2 * p.served

-- a payment's present value in units is that near to its exact value: never below it, as `below` is 0
abbrev pub PaymentNear : (discount : ℕ) → Payment → Type 0
PaymentNear discount p = NearBy (rounded discount p) (unrounded discount p) (roundings p)
