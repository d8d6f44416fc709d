-- Where a walk stands before its first year, and one year on (`walk-zero`, `walk-suc`); a walk of a year or more has paid its arc
-- (`walk-paid`), and an arc of no year pays nothing (`paid_free`); and what the overhauls of a year cost, added one by one (`due_by`). Assumes
-- nothing.
use Prim.Native.Nat.{ℕ, zero, suc, ◌+◌, ◌-◌, ◌^◌, ◌≤◌, ◌<◌}
use mathlib.Core.Path.{◌≡◌, refl, ap, sym, ◌∙◌}
use native.Mathlib.Omega.{arith}
use native.Mathlib.Numerals.{add-one}
use native.Mathlib.Nat.{not-suc-le-zero}
use lib.Dec.{eqb}
use lib.ListN.{get_or}
use borrow.Author.Tests.{eq-eqb, ne_eqb}
use Rattle.base.specs.Lists.{sum_of}
use Rattle.sheet.specs.declared.Flow.{Flow}
use Rattle.steps.specs.Step.{in_service, repeated}
use Rattle.steps.specs.Payment.{rounded, once}
use Rattle.costing.specs.Arc.{in_year, investment, maintenance, electricity, age_of, overhaul, for_each, paid_if, paid, worth}
use Rattle.costing.specs.Fit.{KeptFits}
use Rattle.costing.specs.Walk.{at_age, overhauls_at, walked, walk_at}
use Rattle.costing.specs.declared.Kept.{Kept}
use Rattle.costing.specs.declared.Walk.{Walk}
use Rattle.costing.proofs.SizeLaws.{overhauls_le, walked-le}
use Rattle.costing.proofs.SumLaws as Sum

-- a flow's running amount at the start: after the steps in service before it, or new; and one year in service on
pub in_year-zero :
    (discount : ℕ) (w : Flow) (s t plainly served : ℕ) {a m : ℕ} → plainly ≡ s → served ≡ t - s
    → a ≡ rounded discount (once w.amount w.grow plainly) → m ≡ repeated served (in_service w.grow w.age discount) a
    → m ≡ rounded discount (in_year w s t 0)
unfolding rounded once in_year repeated
in_year-zero discount w s t plainly served p q now steps =
    let same : t - s + 0 ≡ served = omega arith in
    rw (same, ← p) (steps ∙ ap (repeated served (in_service w.grow w.age discount)) now)

pub in_year_new : (discount : ℕ) (w : Flow) (t : ℕ) → rounded discount (once w.amount w.grow t) ≡ rounded discount (in_year w t t 0)
unfolding repeated
in_year_new discount w t = in_year-zero discount w t t t 0 refl (omega arith) refl refl

pub in_year-suc :
    (discount : ℕ) (w : Flow) (s t n : ℕ) {a m : ℕ}
    → a ≡ rounded discount (in_year w s t n) → m ≡ in_service w.grow w.age discount a → m ≡ rounded discount (in_year w s t (suc n))
unfolding rounded in_year repeated
in_year-suc discount w s t n now step =
    let more : t - s + suc n ≡ suc (t - s + n) = omega arith in rw more (step ∙ ap (in_service w.grow w.age discount) now)

-- a walk of which the figures are given
abbrev pub walk : (cost maintenance electricity years : ℕ) → Walk
walk c m e n = record { cost = record { 0 = c }; maintenance = record { 0 = m }; electricity = record { 0 = e }; years = n }

-- the fields of a walk that stands where it should
walk_at-cost : (a : Kept) (n : ℕ) → (walk_at a n).cost.0 ≡ worth a (walked a n)
unfolding walk_at
walk_at-cost a n = refl

pub walk_at-maintenance :
    (a : Kept) (n : ℕ) → (walk_at a n).maintenance.0 ≡ rounded a.discount (in_year a.terms.maintenance a.from a.from n)
unfolding walk_at maintenance
walk_at-maintenance a n = refl

pub walk_at-electricity :
    (a : Kept) (n : ℕ) → (walk_at a n).electricity.0 ≡ rounded a.discount (in_year a.terms.electricity a.since a.from n)
unfolding walk_at electricity
walk_at-electricity a n = refl

walk_at-years : (a : Kept) (n : ℕ) → (walk_at a n).years ≡ n
unfolding walk_at
walk_at-years a n = refl

pub walk-zero :
    (a : Kept) {by c m e : ℕ}
    → by ≡ a.discount
    → c ≡ rounded by (once a.terms.investment.amount a.terms.investment.grow a.from)
    → m ≡ rounded by (once a.terms.maintenance.amount a.terms.maintenance.grow a.from)
    → e ≡ rounded by (electricity a 0)
    → walk c m e 0 ≡ walk_at a 0
unfolding walk_at investment maintenance electricity
walk-zero a number p q s =
    let p' = rw number at p ∙ sym (Sum.walked-zero (rounded a.discount) a) in
    let q' = rw number at q ∙ in_year_new a.discount a.terms.maintenance a.from in
    let s' = rw number at s in
    λ i. walk (p' i) (q' i) (s' i) 0

module _ (a : Kept) (w : Walk) (stands : w ≡ walk_at a w.years) (due m e : ℕ)
    (falls : due ≡ worth a (overhauls_at a w.years)) {by : ℕ} (number : by ≡ a.discount)
    (serves : m ≡ in_service a.terms.maintenance.grow a.terms.maintenance.age by w.maintenance.0)
    (powers : e ≡ in_service a.terms.electricity.grow a.terms.electricity.age by w.electricity.0) where
  next_maintenance : m ≡ rounded a.discount (maintenance a (suc w.years))
  unfolding maintenance
  next_maintenance =
      in_year-suc a.discount a.terms.maintenance a.from a.from w.years
      (ap (λ (x : Walk). x.maintenance.0) stands ∙ walk_at-maintenance a w.years) (rw number at serves)

  next_electricity : e ≡ rounded a.discount (electricity a (suc w.years))
  unfolding electricity
  next_electricity =
      in_year-suc a.discount a.terms.electricity a.since a.from w.years
      (ap (λ (x : Walk). x.electricity.0) stands ∙ walk_at-electricity a w.years) (rw number at powers)

  next_cost : w.cost.0 + due + m + e ≡ worth a (walked a (suc w.years))
  next_cost =
      let now : w.cost.0 ≡ worth a (walked a w.years) =
      ap (λ (x : Walk). x.cost.0) stands ∙ walk_at-cost a w.years in
      rw (
        Sum.walked-suc (rounded a.discount) a w.years,
        Sum.added_total (rounded a.discount) a w.years,
        ← now,
        ← falls,
        ← next_maintenance,
        ← next_electricity,
      )
      (omega arith)

  -- one year on
  pub walk-suc : walk (w.cost.0 + due + m + e) m e (w.years + 1) ≡ walk_at a (w.years + 1)
  unfolding walk_at
  walk-suc = rw (add-one w.years) (λ i. walk (next_cost i) (next_maintenance i) (next_electricity i) (suc w.years))

  -- the sum leaves room, so its parts do
  pub walk-room : KeptFits a → w.years < 300 → w.cost.0 + due + m + e < 2 ^ 64
  walk-room h l = let room = walked-le a h (suc w.years) (omega arith) in rw next_cost (omega arith)

-- a walk of a year or more has paid its arc
pub walk-paid : (a : Kept) (w : Walk) (n : ℕ) → w ≡ walk_at a n → 0 < n → w.cost.0 ≡ worth a (paid a n)
walk-paid a w zero stands l = absurd (not-suc-le-zero l)
walk-paid a w (suc n) stands l =
    ap (λ (x : Walk). x.cost.0) stands ∙ walk_at-cost a (suc n) ∙ sym (Sum.walked-paid (rounded a.discount) a n)

-- a walk that stands after n years has n years
pub walk-years : (a : Kept) (w : Walk) (n : ℕ) → w ≡ walk_at a n → w.years ≡ n
walk-years a w n stands = ap (λ (x : Walk). x.years) stands ∙ walk_at-years a n

pub walk_stands : (a : Kept) (w : Walk) (n : ℕ) → w ≡ walk_at a n → w ≡ walk_at a w.years
walk_stands a w n stands = stands ∙ ap (walk_at a) (sym (walk-years a w n stands))

-- an overhaul of age n costs what its amount paid in year n of the arc does; one of another age costs nothing
module _ (discount amount grow from age n : ℕ) where
  pub overhaul_falls :
      age ≡ n
      → rounded discount (once amount grow (from + n)) ≡ sum_of (rounded discount) (paid_if (eqb age n) (once amount grow (from + age)))
  overhaul_falls e =
      rw (eq-eqb age n e, Sum.paid_if-true (rounded discount)) (ap (λ (x : ℕ). rounded discount (once amount grow (from + x))) (sym e))

  pub overhaul_waits : (age ≡ n → ⊥) → 0 ≡ sum_of (rounded discount) (paid_if (eqb age n) (once amount grow (from + age)))
  overhaul_waits d = rw (ne_eqb age n d) (sym (Sum.paid_if-false (rounded discount) (once amount grow (from + age))))

-- what the first k overhauls cost in year n of the arc
unfoldable pub due_by : Kept → (n k : ℕ) → ℕ
due_by a n k = worth a (for_each k (at_age a n))

pub due_by-zero : (a : Kept) (n : ℕ) → 0 ≡ due_by a n 0
unfolding due_by
due_by-zero a n = sym (Sum.for_each-zero (rounded a.discount) _)

pub due_by-suc :
    (a : Kept) (n k : ℕ) {by : ℕ} → by ≡ a.discount
    → let o = a.terms.overhauls in
    let age = get_or o.ages k 0 in
    due_by a n k + sum_of (rounded by) (paid_if (eqb age n) (once (get_or o.amounts k 0) o.grow (a.from + age))) ≡ due_by a n (k + 1)
unfolding due_by overhaul age_of
due_by-suc a n k number = rw (number, add-one k) (sym (Sum.for_each-suc (rounded a.discount) k _))

pub due_by_all : (a : Kept) (n : ℕ) → due_by a n a.terms.overhauls.count ≡ worth a (overhauls_at a n)
unfolding due_by overhauls_at
due_by_all a n = refl

pub due_by-lt : (a : Kept) → KeptFits a → (n k : ℕ) → k ≤ a.terms.overhauls.count → due_by a n k < 2 ^ 64
unfolding due_by
due_by-lt a h n k l = let room = overhauls_le a h n k l in omega arith

-- an arc of no year pays nothing
pub paid_free : (a : Kept) (years : ℕ) → years ≡ 0 → 0 ≡ worth a (paid a years)
paid_free a years none = rw none (sym (Sum.paid-zero (rounded a.discount) a))
