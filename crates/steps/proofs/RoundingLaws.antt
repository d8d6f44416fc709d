-- Laws of `divided`, for every dividend and every positive divisor. Nothing else unfolds it, but for the cases and for the proofs of `up` and
-- `up_by`, which compute it. In order: how far it lies from the quotient, above and below; that it is the least whole number not below it; how it
-- moves with the dividend. Assumes nothing.
use Prim.Native.Nat.{ℕ, ◌+◌, ◌-◌, ◌*◌, ◌/◌, ◌≤◌, ◌<◌}
use mathlib.Core.Path.{◌≡◌}
use native.Mathlib.Nat.{div-mul-le_self, lt-div-mul-add, div-lt_iff_lt-mul, add_right_comm, add-mul-div_right}
use native.Mathlib.Omega.{arith}
use Rattle.steps.specs.Step.{divided, above, below}

module _ (n d : ℕ) (positive : 0 < d) where
  -- at most a unit above n / d
  pub divided-above : 2 * (divided n d * d) ≤ 2 * n + above * d
  unfolding divided above
  divided-above = omega (arith, div-mul-le_self (n + (d - 1)) d)

  -- never below n / d
  pub divided-below : 2 * n ≤ 2 * (divided n d * d) + below * d
  unfolding divided below
  divided-below = omega (arith, lt-div-mul-add {a = n + (d - 1)} positive)

  -- the same in units, for the room that a step needs
  pub divided_near : divided n d * d ≤ n + d
  unfolding above
  divided_near = omega (arith, divided-above)

  -- of the whole numbers not below n / d the least
  pub divided-le : (m : ℕ) → n ≤ m * d → divided n d ≤ m
  unfolding divided
  divided-le m h =
      let q : (n + (d - 1)) / d < m + 1 = (div-lt_iff_lt-mul positive).1 (omega arith) in
      omega arith

-- a larger dividend gives no less
pub divided_mono : (n m d : ℕ) → 0 < d → n ≤ m → divided n d ≤ divided m d
unfolding below
divided_mono n m d positive h = divided-le n d positive (divided m d) (omega (arith, divided-below m d positive))

-- m divisors more give m more
pub divided_shift : (n m d : ℕ) → 0 < d → divided (n + m * d) d ≡ divided n d + m
unfolding divided
divided_shift n m d positive = rw (add_right_comm n (m * d) (d - 1)) (add-mul-div_right (n + (d - 1)) m positive)
