-- What one step, plain or in service, adds to the error: first for every rate and amount with a positive discount, then under the limits of
-- the checks, where a plain step adds at most one rounding and a step in service at most two. Assumes nothing.
use Prim.Native.Nat.{ℕ, ◌+◌, ◌*◌, ◌≤◌, ◌<◌}
use native.Mathlib.Nat.{mul-le-mul_left}
use native.Mathlib.Omega.{arith}
use Rattle.steps.specs.Step.{plain, in_service}
use Rattle.steps.specs.Exact.{Fraction, scaled, exact_plain, exact_in_service}
use Rattle.steps.specs.Error.{Near, NearBy}
use Rattle.steps.proofs.ErrorOfRounding.{near_divided, near_weaken}

-- one rounding
pub plain_error :
    (grow discount a : ℕ) (x : Fraction) (W : ℕ) → 0 < discount → Near a x W
    → Near (plain grow discount a) (exact_plain grow discount x) (W * grow + x.denominator * discount)
unfolding plain exact_plain
plain_error grow discount a x W positive c = near_divided grow discount a x W positive c

-- two roundings
pub in_service_error :
    (grow age discount a : ℕ) (x : Fraction) (W : ℕ) → 0 < discount → Near a x W
    → Near (in_service grow age discount a) (exact_in_service grow age discount x)
    ((W * age + x.denominator * 1_000_000) * grow + x.denominator * 1_000_000 * discount)
unfolding in_service exact_in_service scaled
in_service_error grow age discount a x W positive c =
    plain_error grow discount _ _ _ positive (near_divided age 1_000_000 a x W (omega arith) c)

-- a step and its exact form add at most h roundings to the error
abbrev pub Adds : ℕ → (ℕ → ℕ) → (Fraction → Fraction) → Type 0
Adds h step exact_step = (a : ℕ) (x : Fraction) (w : ℕ) → NearBy a x w → NearBy (step a) (exact_step x) (w + h)

-- the two allowances above under the limits, for w roundings over a denominator P
plain-roundings-le : (grow discount w P : ℕ) → grow ≤ discount → w * P * grow + P * discount ≤ (w + 1) * (P * discount)
plain-roundings-le grow discount w P grown = omega (arith, mul-le-mul_left (w * P) grown)

in_service-roundings-le :
    (grow age discount w P m : ℕ) → grow ≤ discount → grow * age ≤ m * discount
    → (w * P * age + P * m) * grow + P * m * discount ≤ (w + 2) * (P * m * discount)
in_service-roundings-le grow age discount w P m grown product =
    omega (arith, mul-le-mul_left (w * P) product, mul-le-mul_left (P * m) grown)

-- at most one rounding more
pub plain-roundings : (grow discount : ℕ) → 0 < discount → grow ≤ discount → Adds 1 (plain grow discount) (exact_plain grow discount)
unfolding exact_plain scaled
plain-roundings grow discount positive grown a x w c =
    near_weaken (plain-roundings-le grow discount w x.denominator grown) (plain_error grow discount a x _ positive c)

-- at most two roundings more
pub in_service-roundings :
    (grow age discount : ℕ) → 0 < discount → grow ≤ discount → grow * age ≤ 1_000_000 * discount
    → Adds 2 (in_service grow age discount) (exact_in_service grow age discount)
unfolding exact_in_service exact_plain scaled
in_service-roundings grow age discount positive grown product a x w c =
    near_weaken (in_service-roundings-le grow age discount w x.denominator 1_000_000 grown product)
    (in_service_error grow age discount a x _ positive c)
