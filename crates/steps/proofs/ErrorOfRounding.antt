-- How far a rounded amount lies from a fraction: not at all at the start, what one rounding adds, for all naturals with a positive
-- divisor, and sums over one denominator. Assumes nothing.
use Prim.Native.Nat.{ℕ, ◌+◌, ◌*◌, ◌≤◌, ◌<◌}
use mathlib.Core.Path.{◌≡◌}
use native.Mathlib.Nat.{mul-le-mul_left}
use native.Mathlib.Omega.{arith}
use Rattle.steps.specs.Step.{divided, above, below}
use Rattle.steps.specs.Exact.{Fraction, ◌over◌, scaled}
use Rattle.steps.specs.Error.{Near, NearBy}
use Rattle.steps.proofs.RoundingLaws.{divided-above, divided-below}

-- an amount that has not been rounded yet
pub near_start : (n : ℕ) → Near n (n over 1) 0
near_start n = omega arith

-- one rounding multiplies the allowance as it multiplies the fraction, and adds one over the new denominator
pub near_divided :
    (n d a : ℕ) (x : Fraction) (W : ℕ) → 0 < d → Near a x W
    → Near (divided (a * n) d) (scaled n d x) (W * n + x.denominator * d)
unfolding scaled
near_divided n d a x W positive c =
    let P = x.denominator in
    record {
      high = omega (arith, mul-le-mul_left P (divided-above (a * n) d positive), mul-le-mul_left n c.high);
      low = omega (arith, mul-le-mul_left P (divided-below (a * n) d positive), mul-le-mul_left n c.low);
    }

-- a larger allowance
pub near_weaken : {a U W : ℕ} {x : Fraction} → U ≤ W → Near a x U → Near a x W
near_weaken h c = omega (arith, mul-le-mul_left above h, mul-le-mul_left below h)

-- from a fraction to a multiple of its denominator
pub near_lift : {a : ℕ} {x : Fraction} (w q D : ℕ) → q * x.denominator ≡ D → NearBy a x w → NearBy a (x.numerator * q over D) w
near_lift w q D e c = rw (← e) (omega (arith, mul-le-mul_left q c.high, mul-le-mul_left q c.low))

-- sums over one denominator
pub near_add : {a b e f D : ℕ} (v w : ℕ) → NearBy a (e over D) v → NearBy b (f over D) w → NearBy (a + b) (e + f over D) (v + w)
near_add v w c d = omega arith
