-- How large an amount of cents can be. A step of an amount a gives at most 1.26 a + 3.46, in service only by check 8 (`plain-cents`,
-- `in_service-cents`); so k years after year 0 there are at most `most_cents k`, and up to year 15 a payment leaves room (`cents-le`). Assumes
-- nothing.
use Prim.Native.Nat.{ℕ, zero, suc, ◌+◌, ◌-◌, ◌*◌, ◌≤◌, ◌<◌}
use mathlib.Core.Path.{◌≡◌}
use native.Mathlib.Nat.{add-zero, mul-le-mul, mul-le-mul_left, le_of_mul-le-mul_left, lt-div-mul-add}
use native.Mathlib.Omega.{arith}
use lib.Dec.{lit≤}
use Rattle.steps.specs.Step.{repeated}
use Rattle.steps.specs.Payment.{Payment, year}
use Rattle.steps.specs.Fit.{Rates}
use Rattle.steps.proofs.RoundingLaws.{divided_near}
use Rattle.steps.proofs.RoomLaws.{aged-room}
use Rattle.nominal.specs.Nominal.{risen, nominal_plain, nominal_in_service, cents, last_nominal}
use Rattle.nominal.specs.Fit.{most_cents, largest_cents}

-- a rate gives less than a cent more than the product
risen_near : (factor a : ℕ) → risen factor a * 1_000_000 ≤ a * factor + 1_000_000
unfolding risen
risen_near factor a = divided_near (a * factor) 1_000_000 (omega arith)

-- so of an amount that is bounded it gives one that is
pub risen-le : (factor a most bound : ℕ) → a ≤ most → most * factor + 1_000_000 ≤ bound * 1_000_000 → risen factor a ≤ bound
risen-le factor a most bound h k =
    le_of_mul-le-mul_left {k = 1_000_000} (omega (arith, risen_near factor a, mul-le-mul_left factor h)) (omega arith)

-- b f ≤ (a + 1) d, so with c m ≤ b G + m and e m ≤ c f + m, where m is 10^6: e m m ≤ c f m + m m ≤ (a + 1) d G + m f + m m
raised : (a b c e f G d : ℕ) → b * f ≤ (a + 1) * d → c * 1_000_000 ≤ b * G + 1_000_000 → e * 1_000_000 ≤ c * f + 1_000_000
    → f ≤ 1_200_000 → d ≤ 1_200_000 → G ≤ 1_050_000 → 100 * e ≤ 126 * a + 346
raised a b c e f G d h k l small low general =
    let product : d * G ≤ 1_200_000 * 1_050_000 = mul-le-mul low general in
    let first : (a + 1) * (d * G) ≤ (a + 1) * (1_200_000 * 1_050_000) = mul-le-mul_left (a + 1) product in
    let h' : G * (b * f) ≤ G * ((a + 1) * d) = mul-le-mul_left G h in
    let k' : f * (c * 1_000_000) ≤ f * (b * G + 1_000_000) = mul-le-mul_left f k in
    omega (arith, first, h', k')

-- k years after year 0: the bound of the next year, and of a later one
most_next : (k a b : ℕ) → a ≤ most_cents k → 100 * b ≤ 126 * a + 346 → b ≤ most_cents (suc k)
most_next k a b h l = omega (arith, lt-div-mul-add {a = 126 * most_cents k + 346} {b = 100} (omega arith))

most_up : (j k : ℕ) → most_cents j ≤ most_cents (j + k)
most_up j zero = rw (add-zero j) (omega arith)
most_up j (suc k) =
    let e : j + suc k ≡ suc (j + k) = omega arith in
    rw e (omega (arith, most_up j k, lt-div-mul-add {a = 126 * most_cents (j + k) + 346} {b = 100} (omega arith)))

fifteen_years : most_cents last_nominal ≤ largest_cents
fifteen_years = lit≤ tt

pub most_room : (k a : ℕ) → k ≤ last_nominal → a ≤ most_cents k → a ≤ largest_cents
most_room k a l h =
    let e : k + (last_nominal - k) ≡ last_nominal = omega arith in
    omega (arith, rw e at (most_up k (last_nominal - k)), fifteen_years)

module _ (general grow : ℕ) (high : general ≤ 1_050_000) (small : grow ≤ 1_200_000) where
  -- a plain step ages nothing
  plain-cents : (a : ℕ) → 100 * nominal_plain general grow a ≤ 126 * a + 346
  unfolding nominal_plain
  plain-cents a =
      raised a a (risen general a) _ grow general 1_200_000
      (mul-le-mul {n₂ = a + 1} (omega arith) small)
      (risen_near general a) (risen_near grow (risen general a)) small (omega arith) high

  pub plains_most : (k a : ℕ) → a ≤ most_cents 0 → repeated k (nominal_plain general grow) a ≤ most_cents k
  unfolding repeated
  plains_most zero a h = h
  plains_most (suc k) a h =
      let now = repeated k (nominal_plain general grow) a in
      most_next k now (nominal_plain general grow now) (plains_most k a h) (plain-cents now)

  -- in service, with an ageing that passes check 8
  module _ (age discount : ℕ) (low : discount ≤ 1_200_000) (positive : 0 < discount) (grown : grow ≤ discount)
      (product : grow * age ≤ 1_000_000 * discount) where
    in_service-cents : (a : ℕ) → 100 * nominal_in_service general grow age a ≤ 126 * a + 346
    unfolding nominal_in_service nominal_plain risen
    in_service-cents a =
        let aged = risen age a in
        raised a aged (risen general aged) _ grow general discount
        (aged-room grow age discount positive grown product a)
        (risen_near general aged) (risen_near grow (risen general aged)) small low high

    services_most : (j k a : ℕ) → a ≤ most_cents j → repeated k (nominal_in_service general grow age) a ≤ most_cents (j + k)
    unfolding repeated
    services_most j zero a h = rw (add-zero j) h
    services_most j (suc k) a h =
        let now = repeated k (nominal_in_service general grow age) a in
        let e : j + suc k ≡ suc (j + k) = omega arith in
        rw e (most_next (j + k) now (nominal_in_service general grow age now) (services_most j k a h) (in_service-cents now))

-- a payment of a sheet that passes its checks, by year 15
pub cents-le :
    (general discount : ℕ) (p : Payment) → general ≤ 1_050_000 → discount ≤ 1_200_000 → Rates discount p → p.amount ≤ 1_000_000_000
    → year p ≤ last_nominal → cents general p ≤ largest_cents
unfolding cents year
cents-le general discount p high low rates amount by =
    let small : p.grow ≤ 1_200_000 = omega (arith, rates.grown) in
    let start = plains_most general p.grow high small p.plainly (p.amount * 100) (omega arith) in
    most_room (p.plainly + p.served) _ by
    (services_most general p.grow high small p.age discount low rates.positive rates.grown rates.product
    p.plainly p.served _ start)
