-- What a payment is worth in units against its exact value, then the same for sums over lists of payments: they differ by at most one rounding
-- for each plain step and two for each step in service. Between the two: the exact value over the common denominator is whole (`exact_whole`).
-- Assumes nothing.
use Prim.Native.Nat.{ℕ, zero, suc, ◌+◌, ◌-◌, ◌*◌, ◌≤◌, ◌∣◌}
use mathlib.Core.Path.{◌≡◌}
use mathlib.Core.List.{List, [], ◌∷◌}
use native.Mathlib.Nat.{mul-le-mul_right, mul_assoc, mul-suc, mul-mul-mul_comm, add-zero, add-suc, pow-suc, one-dvd, dvd_refl, dvd_trans, dvd-mul_left, mul-dvd-mul_left, mul-dvd-mul_right, div-mul_cancel}
use native.Mathlib.Omega.{arith}
use lib.Pow.{pow-add}
use Rattle.base.specs.Lists.{Every, sum_of}
use Rattle.steps.specs.Step.{repeated}
use Rattle.steps.specs.Payment.{Payment, year, rounded}
use Rattle.steps.specs.Exact.{Fraction, ◌over◌, scaled, exact_plain, exact_in_service, unrounded, common, exact, Whole}
use Rattle.steps.specs.Error.{NearBy, roundings, PaymentNear}
use Rattle.steps.specs.Fit.{Rates, Sound}
use Rattle.steps.proofs.ErrorOfRounding.{near_start, near_weaken, near_lift, near_add}
use Rattle.steps.proofs.ErrorOfStep.{Adds, plain-roundings, in_service-roundings}

-- k steps add k times what one adds
repeated_adds :
    (h : ℕ) (step : ℕ → ℕ) (exact_step : Fraction → Fraction) → Adds h step exact_step
    → (k : ℕ) → Adds (h * k) (repeated k step) (repeated k exact_step)
unfolding repeated
repeated_adds h step exact_step one zero a x w c = near_weaken (mul-le-mul_right x.denominator (omega arith)) c
repeated_adds h step exact_step one (suc k) a x w c =
    near_weaken (mul-le-mul_right _ (omega arith)) (one _ _ (w + h * k) (repeated_adds h step exact_step one k a x w c))

-- a payment after p plain steps and s in service: at most p + 2s roundings
pub payment_error : (discount : ℕ) (p : Payment) → Rates discount p → PaymentNear discount p
unfolding rounded unrounded roundings
payment_error discount p ok =
    let plainly = repeated_adds 1 _ _ (plain-roundings p.grow discount ok.positive ok.grown) p.plainly in
    let served = repeated_adds 2 _ _ (in_service-roundings p.grow p.age discount ok.positive ok.grown ok.product) p.served in
    near_weaken (mul-le-mul_right _ (omega arith)) (served _ _ _ (plainly _ _ 0 (near_start (p.amount * 10_000))))

common-suc : (n discount : ℕ) → common (suc n) discount ≡ common n discount * (1_000_000 * discount)
unfolding common
common-suc n discount = rw (mul-suc, pow-add 10, pow-suc discount) (mul-mul-mul_comm _ _ _ discount)

-- k steps, each of which multiplies the denominator by a divisor of 10^6 × discount
repeated_divides :
    (discount : ℕ) (step : Fraction → Fraction) → ((x : Fraction) → (step x).denominator ∣ x.denominator * (1_000_000 * discount))
    → (k n : ℕ) (x : Fraction) → x.denominator ∣ common n discount → (repeated k step x).denominator ∣ common (n + k) discount
unfolding repeated
repeated_divides discount step one zero n x h = rw (add-zero n) h
repeated_divides discount step one (suc k) n x h =
    rw (add-suc n k, common-suc)
    (dvd_trans _ (one (repeated k step x)) (mul-dvd-mul_right _ (repeated_divides discount step one k n x h) (1_000_000 * discount)))

plain_divides : (grow discount : ℕ) (x : Fraction) → (exact_plain grow discount x).denominator ∣ x.denominator * (1_000_000 * discount)
unfolding exact_plain scaled
plain_divides grow discount x = mul-dvd-mul_left discount x.denominator (dvd-mul_left discount 1_000_000)

in_service_divides :
    (grow age discount : ℕ) (x : Fraction) → (exact_in_service grow age discount x).denominator ∣ x.denominator * (1_000_000 * discount)
unfolding exact_in_service exact_plain scaled
in_service_divides grow age discount x = rw mul_assoc (dvd_refl _)

-- counted from the years between the payment and the horizon: each step of the payment adds a year
unrounded_divides : (horizon discount : ℕ) (p : Payment) → year p ≤ horizon → (unrounded discount p).denominator ∣ common horizon discount
unfolding unrounded year
unrounded_divides horizon discount p h =
    let plainly = exact_plain p.grow discount in
    let served = exact_in_service p.grow p.age discount in
    let left = horizon - (p.plainly + p.served) in
    let start = p.amount * 10_000 over 1 in
    let moved = repeated_divides discount plainly (plain_divides p.grow discount) p.plainly left start (one-dvd _) in
    let all : left + p.plainly + p.served ≡ horizon = omega arith in
    rw all at
    (repeated_divides discount served (in_service_divides p.grow p.age discount) p.served (left + p.plainly)
    (repeated p.plainly plainly start) moved)

-- for every payment by year T
pub exact_whole : (horizon discount : ℕ) (p : Payment) → year p ≤ horizon → Whole horizon discount p
unfolding exact
exact_whole horizon discount p h = rw (mul_assoc, div-mul_cancel _ (unrounded_divides horizon discount p h))

-- both values over the common denominator
pub payment_over :
    (horizon discount : ℕ) (p : Payment) → Rates discount p → year p ≤ horizon
    → NearBy (rounded discount p) (exact horizon discount p over common horizon discount) (roundings p)
unfolding exact
payment_over horizon discount p ok h =
    near_lift (roundings p) _ _ (div-mul_cancel _ (unrounded_divides horizon discount p h)) (payment_error discount p ok)

pub total_error :
    (horizon discount : ℕ) (ps : List Payment) → Every (Sound horizon discount) ps
    → NearBy (sum_of (rounded discount) ps) (sum_of (exact horizon discount) ps over common horizon discount) (sum_of roundings ps)
unfolding sum_of
total_error horizon discount [] ok = omega arith
total_error horizon discount (p ∷ ps) ok =
    near_add (roundings p) (sum_of roundings ps) (payment_over horizon discount p ok.0.rates ok.0.by) (total_error horizon discount ps ok.1)
