-- A quotient by a reciprocal. The figures by which `Divisor::of` makes a reciprocal fit in 64 bits (`lower_lt`, `inverse_fits`). A divisor's
-- reciprocal is within half a divisor (`ready`), and such a reciprocal gives the quotient exactly (`reciprocal_quotient`). Assumes nothing.
use Prim.Native.Nat.{ℕ, ◌+◌, ◌-◌, ◌*◌, ◌/◌, ◌^◌, ◌≤◌, ◌<◌}
use mathlib.Core.Path.{◌≡◌, ap, ◌∙◌}
use mathlib.Core.Logic.{◌⊎◌, inl, inr, ⊎_elim}
use native.Mathlib.Omega.{arith}
use native.Mathlib.Nat.{add-zero, mul-le-mul, mul-le-mul_left, mul-le-mul_right, mul-lt-mul_of_pos_left, le_of_mul-le-mul_right, lt_of_mul-lt-mul_right, div-mul-le_self, lt-div-mul-add, div-lt_iff_lt-mul, div-eq_of_lt-le, div-div-eq-div-mul}
use Rattle.std.proofs.lemmas.Bool.{cases_lt}
use Rattle.division.specs.Division.{Above, Below, DivisorReady}
use Rattle.division.specs.declared.Divisor.{Divisor}

-- the figures of `Divisor::of`: 2^51 − 1 over the divisor and its rest; that rest with 32 bits more, over the divisor, and what is left;
-- both quotients as one number
abbrev pub high_of : ℕ → ℕ
high_of by = (2 ^ 51 - 1) / by

abbrev pub rest_of : ℕ → ℕ
rest_of by = 2 ^ 51 - 1 - high_of by * by

abbrev pub lower_of : ℕ → ℕ
lower_of by = rest_of by * 2 ^ 32 + (2 ^ 32 - 1)

abbrev pub low_of : ℕ → ℕ
low_of by = lower_of by / by

abbrev pub left_of : ℕ → ℕ
left_of by = lower_of by - low_of by * by

abbrev pub inverse_of : ℕ → ℕ
inverse_of by = high_of by * 2 ^ 32 + low_of by

module _ (by : ℕ) (large : 1_000_000 ≤ by) (small : by ≤ 1_200_000) where
  pub high_le : high_of by * by ≤ 2 ^ 51 - 1
  high_le = div-mul-le_self (2 ^ 51 - 1) by

  rest_lt : rest_of by < by
  rest_lt = omega (arith, lt-div-mul-add {a = 2 ^ 51 - 1} {b = by} (omega arith))

  pub lower_lt : lower_of by < 2 ^ 53
  lower_lt = omega (arith, rest_lt)

  pub low_le : low_of by * by ≤ lower_of by
  low_le = div-mul-le_self (lower_of by) by

  pub left_lt : left_of by < by
  left_lt = omega (arith, lt-div-mul-add {a = lower_of by} {b = by} (omega arith))

  high_lt : high_of by < 2 ^ 32 - 1
  high_lt = omega (arith, high_le, mul-le-mul_left (high_of by) large)

  low_lt : low_of by < 2 ^ 32
  low_lt = (div-lt_iff_lt-mul {k = by} (omega arith)).1 (omega (arith, rest_lt))

  pub inverse_fits : inverse_of by + 1 < 2 ^ 64
  inverse_fits = omega (arith, high_lt, low_lt)

-- x / P is n / d where x d / P lies from n to below n + 1: with q = n / d, q d P ≤ n P ≤ x d < (n + 1) P ≤ (q + 1) d P
quotient_between :
    (P d n x : ℕ) → 0 < d → n * P ≤ x * d → x * d < (n + 1) * P → x / P ≡ n / d
quotient_between P d n x positive from to =
    let q = n / d in
    let under : q * d * P ≤ n * P = mul-le-mul_right P (div-mul-le_self n d) in
    let next : n + 1 ≤ q * d + d = omega (arith, lt-div-mul-add {a = n} {b = d} positive) in
    let over : (n + 1) * P ≤ (q * d + d) * P = mul-le-mul_right P next in
    div-eq_of_lt-le {k = q} P (le_of_mul-le-mul_right {k = d} (omega arith) positive) (lt_of_mul-lt-mul_right d (omega arith))

-- the reciprocal i times the divisor d is within half a divisor of P, and n times half a divisor is below P
module _ (P d n i : ℕ) (positive : 0 < d) where
  above_quotient : P ≤ i * d → 2 * (i * d) ≤ 2 * P + d → n * d < 2 * P → n * i / P ≡ n / d
  above_quotient low high far =
      let l : n * P ≤ n * (i * d) = mul-le-mul_left n low in
      let h : n * (2 * (i * d)) ≤ n * (2 * P + d) = mul-le-mul_left n high in
      quotient_between P d n (n * i) positive (omega arith) (omega arith)

  below_quotient : i * d < P → 2 * P ≤ 2 * (i * d) + d → (n + 1) * d ≤ 2 * P → (n + 1) * i / P ≡ n / d
  below_quotient high low far =
      let h : (n + 1) * (i * d) < (n + 1) * P = mul-lt-mul_of_pos_left high (omega arith) in
      let l : (n + 1) * (2 * P) ≤ (n + 1) * (2 * (i * d) + d) = mul-le-mul_left (n + 1) low in
      quotient_between P d n ((n + 1) * i) positive (omega arith) (omega arith)

module _ (d : Divisor) where
  -- 2^83 fits once into the product, or not at all
  pub near : Above d ⊎ Below d
  near =
      ⊎_elim
      (λ (below : d.inverse * d.by < 2 ^ 83). inr (record { more = omega (arith, d.rounded); high = below; low = d.low }))
      (λ (above : 2 ^ 83 ≤ d.inverse * d.by). inl (record { exact = omega (arith, d.rounded); low = above; high = d.high }))
      (cases_lt (d.inverse * d.by) (2 ^ 83))

  -- each divisor is ready to divide
  pub ready : DivisorReady d
  ready = record { positive = d.positive; small = d.small; near = near }

pub more_le : (d : Divisor) → d.more ≤ 1
more_le d = omega (arith, d.rounded)

-- u is the upper half of the product with the reciprocal
pub reciprocal_quotient :
    (d : Divisor) → (n u : ℕ) → n ≤ 16_000_000_000_000_000_000 → u ≡ (n + d.more) * d.inverse / 2 ^ 64 → u / 2 ^ 19 ≡ n / d.by
reciprocal_quotient d n u near half =
    let most : n + 1 ≤ 16_000_000_000_000_000_001 = omega arith in
    let far : (n + 1) * d.by ≤ 16_000_000_000_000_000_001 * 1_200_000 = mul-le-mul most d.small in
    ap (λ (x : ℕ). x / 2 ^ 19) half
    ∙ div-div-eq-div-mul ((n + d.more) * d.inverse) (2 ^ 64) (2 ^ 19)
    ∙ ⊎_elim
    (λ (a : Above d).
    rw (a.exact, add-zero n) (above_quotient (2 ^ 83) d.by n d.inverse d.positive a.low a.high (omega arith)))
    (λ (b : Below d).
    rw b.more (below_quotient (2 ^ 83) d.by n d.inverse d.positive b.high b.low (omega arith)))
    (ready d).near
