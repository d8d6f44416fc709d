-- Laws of `present_worth`. In order:
--     present_worth-zero, present_worth-suc      the factor of year 0, and of a year later
--     present_worth-le      no factor is above 10^12
--     present_worth_free      at rate 0 it is 10^12 in every year
--     present_worth-once      it is the present value in units of 10^8 currency units that are paid once in its year
--     present_worth_near      how far it lies from its exact value
-- Assumes nothing.
use Prim.Native.Nat.{ℕ, zero, suc, ◌+◌, ◌*◌, ◌^◌, ◌≤◌}
use mathlib.Core.Path.{◌≡◌, refl, ap, ◌∙◌}
use native.Mathlib.Nat.{mul-one, mul_assoc, pow-zero, pow-suc}
use native.Mathlib.Omega.{arith}
use Rattle.steps.specs.Step.{plain, repeated, above, below}
use Rattle.steps.specs.Payment.{rounded, once}
use Rattle.steps.specs.Exact.{◌over◌, scaled, exact_plain, unrounded}
use Rattle.steps.specs.Error.{roundings}
use Rattle.steps.proofs.RoundingLaws.{divided-below, divided-le}
use Rattle.steps.proofs.RoomLaws.{plains_le}
use Rattle.steps.proofs.ErrorOfPayment.{payment_error}
use Rattle.factors.specs.PresentWorth.{at_once, discounted, present_worth, FactorNear}

pub present_worth-zero : (rate : ℕ) → present_worth rate 0 ≡ at_once
unfolding present_worth repeated
present_worth-zero rate = refl

pub present_worth-suc : (rate year : ℕ) → present_worth rate (suc year) ≡ discounted rate (present_worth rate year)
unfolding present_worth repeated
present_worth-suc rate year = refl

pub present_worth-le : (rate year : ℕ) → present_worth rate year ≤ at_once
unfolding present_worth
present_worth-le rate year = plains_le 1_000_000 (1_000_000 + rate) (omega arith) (omega arith) year at_once

-- a step at rate 0 changes nothing
discounted_free : (a : ℕ) → discounted 0 a ≡ a
unfolding plain below
discounted_free a =
    let d : ℕ = 1_000_000 in
    omega (arith, divided-le (a * d) d (omega arith) a (omega arith), divided-below (a * d) d (omega arith))

pub present_worth_free : (year : ℕ) → present_worth 0 year ≡ at_once
present_worth_free zero = present_worth-zero 0
present_worth_free (suc year) = present_worth-suc 0 year ∙ ap (discounted 0) (present_worth_free year) ∙ discounted_free at_once

pub present_worth-once : (rate year : ℕ) → present_worth rate year ≡ rounded (1_000_000 + rate) (once 100_000_000 1_000_000 year)
unfolding present_worth rounded once repeated
present_worth-once rate year = refl

-- the exact value of an amount that is paid once: it is multiplied and divided once a year
power_next : (e b k : ℕ) → e * b ^ k * b ≡ e * b ^ suc k
power_next e b k = rw (pow-suc b k) (mul_assoc e (b ^ k) b)

plains_exact : (grow discount e D k : ℕ) → repeated k (exact_plain grow discount) (e over D) ≡ (e * grow ^ k over D * discount ^ k)
unfolding repeated exact_plain scaled
plains_exact grow discount e D zero = rw (pow-zero grow, pow-zero discount, mul-one e, mul-one D)
plains_exact grow discount e D (suc k) =
    ap (exact_plain grow discount) (plains_exact grow discount e D k)
    ∙ (λ i. record { numerator = power_next e grow k i; denominator = power_next D discount k i })

once-exact :
    (discount amount grow year : ℕ)
    → unrounded discount (once amount grow year) ≡ (amount * 10_000 * grow ^ year over 1 * discount ^ year)
unfolding unrounded once repeated
once-exact discount amount grow year = plains_exact grow discount (amount * 10_000) 1 year

-- a payment that is rounded once a year
pub present_worth_near : (rate year : ℕ) → FactorNear rate year (present_worth rate year)
unfolding once roundings above below
present_worth_near rate year =
    let discount = 1_000_000 + rate in
    let error = payment_error discount (once 100_000_000 1_000_000 year) (record { positive = omega arith; grown = omega arith; product = omega arith }) in
    let near = rw (once-exact discount 100_000_000 1_000_000 year) at error in
    rw (present_worth-once rate year) (record { low = omega (arith, near.low); high = omega (arith, near.high) })
