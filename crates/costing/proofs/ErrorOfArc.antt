-- An arc's cost against its exact value: never below it, and above it by at most the allowance of its years (`arc_error`). In order: every
-- payment of an arc passes the checks and falls by the horizon, so its exact value is whole (`payments_whole`) and its rounded one near
-- (`payments_error`); how often the payments of each year are rounded; the two together. Assumes nothing.
use Prim.Native.Nat.{ℕ, zero, suc, ◌+◌, ◌*◌, ◌≤◌, ◌<◌}
use mathlib.Core.Path.{◌≡◌, refl, ap, sym, ◌∙◌}
use mathlib.Core.List.{List, [], ◌∷◌, ◌++◌}
use mathlib.Core.Bool.{Bool, true, false, cond, ◌&&◌, and-false, false≢true}
use mathlib.Core.Logic.{⊎_elim}
use native.Mathlib.Nat.{mul-le-mul_left, add-zero, add-suc, eq-or-lt_of_le, not-suc-le-zero}
use native.Mathlib.Omega.{arith}
use lib.Dec.{ltb, eqb}
use borrow.Author.Tests.{lt-ltb, le-ltb, ltb-true, eqb-true, eq-eqb, ne_eqb}
use Rattle.base.specs.Lists.{Every, sum_of}
use Rattle.base.proofs.TestLaws.{by_test}
use Rattle.base.proofs.ListsLaws.{every_map, every_append, sum_of-append}
use Rattle.sheet.specs.declared.Flow.{Flow}
use Rattle.checking.specs.Fit.{FlowFits}
use Rattle.steps.specs.Step.{above, below}
use Rattle.steps.specs.Payment.{Payment, year, once}
use Rattle.steps.specs.Exact.{◌over◌, common, Whole}
use Rattle.steps.specs.Error.{NearBy, roundings, PaymentNear}
use Rattle.steps.specs.Fit.{Sound}
use Rattle.steps.proofs.ErrorOfPayment.{payment_error, exact_whole, total_error}
use Rattle.costing.specs.Arc.{Arc, in_year, investment, maintenance, electricity, age_of, overhaul, for_each, paid_if, overhauls_below, paid, removal, closes, closing, payments, cost, exact_cost}
use Rattle.costing.specs.Error.{allowance, WithinAllowance}
use Rattle.costing.specs.Fit.{KeptFits, ArcFits, Between}
use Rattle.costing.specs.Walk.{at_age, overhauls_at, added, walked}
use Rattle.costing.specs.declared.Kept.{Kept}
use Rattle.costing.proofs.SumLaws.{for_each-zero, for_each-suc, for_each_none, paid_if-true, paid_if-false, paid_if-cond, added_total, walked-zero, walked-suc, paid-zero, walked-paid}

module _ (S : Payment → Type 0) where
  every_for_each : (n : ℕ) (f : ℕ → List Payment) → ((j : ℕ) → j < n → Every S (f j)) → Every S (for_each n f)
  unfolding for_each
  every_for_each zero f h = tt
  every_for_each (suc n) f h = every_append S (for_each n f) (f n) (every_for_each n f (λ j l. h j (omega arith))) (h n (omega arith))

  every_paid_if : (test : Bool) (p : Payment) → (test ≡ true → S p) → Every S (paid_if test p)
  unfolding paid_if
  every_paid_if true p h = (h refl, tt)
  every_paid_if false p h = tt

module _ (horizon discount : ℕ) (positive : 0 < discount) where
  once_sound : (amount grow y : ℕ) → grow ≤ discount → y ≤ horizon → Sound horizon discount (once amount grow y)
  unfolding once year
  once_sound amount grow y grown h = omega arith

  in_year_sound : (w : Flow) → FlowFits discount w → (s t k : ℕ) → s ≤ t → t + k ≤ horizon → Sound horizon discount (in_year w s t k)
  unfolding in_year year
  in_year_sound w fits s t k old h = omega arith

  -- the first n years of a flow
  flow_sound :
      (w : Flow) → FlowFits discount w → (s t n : ℕ) → s ≤ t → t + n ≤ horizon
      → Every (Sound horizon discount) (for_each n (λ k. in_year w s t (suc k) ∷ []))
  flow_sound w fits s t n old h = every_for_each _ n _ (λ k l. (in_year_sound w fits s t (suc k) old (omega arith), tt))

module _ (horizon : ℕ) (k : Kept) (ok : KeptFits k) where
  discount_positive : 0 < k.discount
  discount_positive = omega arith

  overhauls_sound : (n : ℕ) → k.from + n ≤ horizon → Every (Sound horizon k.discount) (overhauls_below k n)
  unfolding overhauls_below overhaul
  overhauls_sound n h =
      every_for_each _ k.terms.overhauls.count _ (λ j l.
      every_paid_if _ (ltb (age_of k j) n) _ (λ t.
      let younger = ltb-true (age_of k j) n t in
      once_sound horizon k.discount discount_positive _ _ _ ok.terms.overhauls.grow.high (omega arith)))

  paid_sound : (n : ℕ) → k.from + n ≤ horizon → Every (Sound horizon k.discount) (paid k n)
  unfolding paid investment maintenance electricity
  paid_sound zero h = tt
  paid_sound (suc n) h =
      let flow = flow_sound horizon k.discount discount_positive in (
        once_sound horizon k.discount discount_positive _ _ k.from ok.terms.investment.grow.high (omega arith),
        every_append _ (overhauls_below k (suc n) ++ for_each (suc n) (λ j. maintenance k (suc j) ∷ [])) _
            (every_append _ (overhauls_below k (suc n)) _ (overhauls_sound (suc n) h)
            (flow k.terms.maintenance ok.terms.maintenance k.from k.from (suc n) (omega arith) h))
            (flow k.terms.electricity ok.terms.electricity k.since k.from (suc n) ok.since h),
      )

  closing_sound : (removed : Bool) (n : ℕ) → k.from + n ≤ horizon → Every (Sound horizon k.discount) (closing k removed n horizon)
  unfolding closing removal
  closing_sound removed n h =
      every_paid_if _ (closes k removed n horizon) _
      (λ on. once_sound horizon k.discount discount_positive _ _ _ ok.terms.removal.grow.high h)

module _ (a : Arc) (ok : ArcFits a) where
  pub payments_sound : Every (Sound a.horizon a.kept.discount) (payments a)
  unfolding payments
  payments_sound =
      every_append _ (paid a.kept a.years) _ (paid_sound a.horizon a.kept ok.kept a.years ok.inside)
      (closing_sound a.horizon a.kept ok.kept a.removed a.years ok.inside)

  -- so each payment of an arc after p plain steps and s in service is off by at most p + 2s roundings
  pub payments_error : Every (PaymentNear a.kept.discount) (payments a)
  payments_error = every_map _ _ (λ p s. payment_error a.kept.discount p s.rates) (payments a) payments_sound

  -- and its exact value over the common denominator is whole
  pub payments_whole : Every (Whole a.horizon a.kept.discount) (payments a)
  payments_whole = every_map _ _ (λ p s. exact_whole a.horizon a.kept.discount p s.by) (payments a) payments_sound

-- the allowance of what is paid up to year y without removals: rounded (5y² + 3y)/2 times at most
paid_allowance : ℕ → ℕ
paid_allowance y = 5 * (y * y) + 3 * y

paid_allowance_suc : (y : ℕ) → paid_allowance y + 10 * y + 8 ≤ paid_allowance (suc y)
unfolding paid_allowance
paid_allowance_suc y = omega arith

module _ (k : Kept) (ok : KeptFits k) where
  age_of_rising : (i j : ℕ) → i < j → j < k.terms.overhauls.count → age_of k i < age_of k j
  unfolding age_of
  age_of_rising = ok.terms.overhauls.rising

  overhaul-roundings : (i : ℕ) → roundings (overhaul k i) ≡ k.from + age_of k i
  unfolding overhaul once roundings
  overhaul-roundings i = omega arith

  -- before an overhaul of age n there is no other of that age
  at_age_before : (n i : ℕ) → i < k.terms.overhauls.count → age_of k i ≡ n → sum_of roundings (for_each i (at_age k n)) ≡ 0
  at_age_before n i l e =
      for_each_none roundings i (at_age k n) (λ j m.
      let younger = age_of_rising j i m l in
      rw (ne_eqb (age_of k j) n (λ d. omega arith)) (paid_if-false roundings (overhaul k j)))

  -- so at most one of the first i overhauls has age n
  at_age-roundings : (n i : ℕ) → i ≤ k.terms.overhauls.count → sum_of roundings (for_each i (at_age k n)) ≤ k.from + n
  at_age-roundings n zero l = rw (for_each-zero roundings) (omega arith)
  at_age-roundings n (suc i) l =
      rw (for_each-suc roundings)
      (by_test (eqb (age_of k i) n)
      (λ t.
      let e = eqb-true (age_of k i) n t in
      rw (at_age_before n i l e, t, paid_if-true roundings, overhaul-roundings i) (omega arith))
      (λ t. rw (t, paid_if-false roundings) (omega (arith, at_age-roundings n i (omega arith)))))

  overhauls_at-roundings : (n : ℕ) → sum_of roundings (overhauls_at k n) ≤ k.from + n
  unfolding overhauls_at
  overhauls_at-roundings n = at_age-roundings n k.terms.overhauls.count (omega arith)

  -- What year n adds: one overhaul at most, and two flows. From a start t these give at most 4t + 5n + 4.
  added-roundings : (n : ℕ) → sum_of roundings (added k n) ≤ 4 * k.from + 5 * n + 4
  unfolding maintenance electricity in_year roundings
  added-roundings n = rw (added_total roundings) (omega (arith, overhauls_at-roundings n, ok.since))

  -- and that much in a year with an overhaul, if the motors are in service since year 0
  at_age_least : (n i j : ℕ) → i < j → age_of k i ≡ n → k.from + n ≤ sum_of roundings (for_each j (at_age k n))
  at_age_least n i zero l e = absurd (not-suc-le-zero l)
  at_age_least n i (suc j) l e =
      rw (for_each-suc roundings)
      (⊎_elim
      (λ (q : i ≡ j).
      let here : age_of k j ≡ n = ap (age_of k) (sym q) ∙ e in
      rw (eq-eqb (age_of k j) n here, paid_if-true roundings, overhaul-roundings j) (omega arith))
      (λ (m : i < j). omega (arith, at_age_least n i j m e))
      (eq-or-lt_of_le (omega arith)))

  pub added_full : (n i : ℕ) → i < k.terms.overhauls.count → age_of k i ≡ n → k.since ≡ 0 → sum_of roundings (added k n) ≡ 4 * k.from + 5 * n + 4
  unfolding maintenance electricity in_year roundings overhauls_at
  added_full n i l e old =
      rw (added_total roundings) (omega (arith, overhauls_at-roundings n, at_age_least n i k.terms.overhauls.count l e))

  -- by induction over the years
  walked-roundings : (n : ℕ) → 2 * sum_of roundings (walked k (suc n)) + paid_allowance k.from ≤ paid_allowance (k.from + suc n)
  walked-roundings zero =
      rw (walked-suc roundings, walked-zero roundings, add-suc k.from 0, add-zero k.from)
      (unfold investment once roundings in omega (arith, added-roundings 0, paid_allowance_suc k.from))
  walked-roundings (suc n) =
      rw (walked-suc roundings, add-suc k.from (suc n))
      (omega (arith, walked-roundings n, added-roundings (suc n), paid_allowance_suc (k.from + suc n)))

  paid-roundings : (n : ℕ) → 2 * sum_of roundings (paid k n) + paid_allowance k.from ≤ paid_allowance (k.from + n)
  paid-roundings zero = rw (paid-zero roundings, add-zero k.from) (omega arith)
  paid-roundings (suc n) = rw (walked-paid roundings) (walked-roundings n)

-- With a removal, if there is one, that is allowed: the square of a later year has room for it, t² + t + u ≤ u² for t < u.
grows :
    (T t n : ℕ) (removed : Bool) → t + suc n ≤ T → (removed ≡ true → t + suc n < T)
    → paid_allowance (t + suc n) + 2 * cond removed (t + suc n) 0 + allowance T t ≤ allowance T (t + suc n) + paid_allowance t
unfolding paid_allowance allowance
grows T t n true inside early = rw (lt-ltb t T (omega arith), lt-ltb (t + suc n) T (early refl)) (omega arith)
grows T t n false inside early =
    ⊎_elim (λ (last : t + suc n ≡ T). rw (lt-ltb t T (omega arith), le-ltb (t + suc n) T (omega arith), ← last) (omega arith))
    (λ (l : t + suc n < T). rw (lt-ltb t T (omega arith), lt-ltb (t + suc n) T l) (omega arith)) (eq-or-lt_of_le inside)

and_last : (a b : Bool) → a && b ≡ true → b ≡ true
and_last true b e = e
and_last false b e = absurd (false≢true e)

module _ (k : Kept) (ok : KeptFits k) (T : ℕ) (removed : Bool) where
  closing-roundings : (n : ℕ) → sum_of roundings (closing k removed n T) ≡ cond (closes k removed n T) (k.from + n) 0
  unfolding closing removal once roundings
  closing-roundings n =
      paid_if-cond roundings (closes k removed n T) (removal k (k.from + n)) ∙ ap (λ (u : ℕ). cond (closes k removed n T) u 0) (omega arith)

  whole_roundings :
      (n : ℕ) → k.from + n ≤ T
      → 2 * sum_of roundings (paid k n ++ closing k removed n T) + allowance T k.from ≤ allowance T (k.from + n)
  whole_roundings zero inside =
      rw (sum_of-append roundings (paid k 0) (closing k removed 0 T), paid-zero roundings, closing-roundings 0, and-false removed, add-zero k.from)
      (omega arith)
  whole_roundings (suc n) inside =
      let early : closes k removed (suc n) T ≡ true → k.from + suc n < T =
      λ on. ltb-true (k.from + suc n) T (and_last (removed && ltb 0 (suc n)) _ on) in
      rw (sum_of-append roundings (paid k (suc n)) (closing k removed (suc n) T), closing-roundings (suc n))
      (omega (arith, paid-roundings k ok (suc n), grows T k.from n (closes k removed (suc n) T) inside early))

-- what lies between A and B and what lies between B and C add up to what lies between A and C
pub between_add : {a b e f D A B C : ℕ} → Between a e D A B → Between b f D B C → Between (a + b) (e + f) D A C
between_add h k = omega (arith, h.high, h.low, k.high, k.low)

between_near : {a e D A B : ℕ} (w : ℕ) → NearBy a (e over D) w → 2 * w + A ≤ B → Between a e D A B
between_near {D = D} w c h = omega (arith, mul-le-mul_left (above * D) h, mul-le-mul_left (below * D) h)

pub arc_between :
    (a : Arc) → ArcFits a
    → Between (cost a) (exact_cost a) (common a.horizon a.kept.discount)
    (allowance a.horizon a.kept.from) (allowance a.horizon (a.kept.from + a.years))
unfolding cost exact_cost payments
arc_between a ok =
    between_near (sum_of roundings (payments a)) (total_error a.horizon a.kept.discount (payments a) (payments_sound a ok))
    (whole_roundings a.kept ok.kept a.horizon a.removed a.years ok.inside)

pub arc_error : (a : Arc) → ArcFits a → WithinAllowance a (cost a)
unfolding above below
arc_error a ok = omega (arith, arc_between a ok)
