-- How large the figures of an arc can be, if its option passes the checks. In order:
--     in_year-le, in_year_fits, flow_units-le      a year of a flow, in units
--     paid_if-le, for_each-le      sums of any figure that is bounded
--     due_most, walked_most, paid_most      a figure that is at most `largest_payment` of each payment: 11 payments a year at most
--     closing_most, whole_most      with removal 12 payments a year at most
--     units_small      units are such a figure
--     overhauls_le, walked-le, paid-le, removal-le, whole_le      so these are bounds on what an arc costs
-- Assumes nothing.
use Prim.Native.Nat.{ℕ, zero, suc, ◌+◌, ◌-◌, ◌*◌, ◌≤◌, ◌<◌}
use mathlib.Core.Path.{◌≡◌}
use mathlib.Core.List.{List}
use mathlib.Core.Bool.{Bool, true, false, and-false}
use native.Mathlib.Omega.{arith}
use native.Mathlib.Nat.{le_trans}
use lib.Dec.{eqb}
use lib.ListN.{get_or}
use Rattle.base.specs.Lists.{sum_of}
use Rattle.sheet.specs.declared.Flow.{Flow}
use Rattle.checking.specs.Fit.{FlowFits}
use Rattle.steps.specs.Step.{plain, repeated}
use Rattle.steps.specs.Payment.{Payment, rounded}
use Rattle.steps.specs.Fit.{largest_payment, ServiceFits}
use Rattle.steps.proofs.RoomLaws.{services_le, plains_le, once-le}
use Rattle.costing.specs.Arc.{in_year, investment, maintenance, electricity, age_of, overhaul, for_each, paid_if, paid, removal, closes, closing, worth, whole_worth}
use Rattle.costing.specs.Fit.{yearly, KeptFits, Small}
use Rattle.costing.specs.Walk.{at_age, overhauls_at, added, walked}
use Rattle.costing.specs.declared.Kept.{Kept}
use Rattle.costing.proofs.SumLaws as Sum

in_year-le :
    (discount : ℕ) (w : Flow) (s t k : ℕ) → 0 < discount → FlowFits discount w
    → rounded discount (in_year w s t k) ≤ w.amount * 10_000 + (t - s + k)
unfolding rounded in_year
in_year-le discount w s t k positive h =
    let start = repeated s (plain w.grow discount) (w.amount * 10_000) in
    let flat = plains_le w.grow discount positive h.grow.high s (w.amount * 10_000) in
    let up = services_le w.grow w.age discount positive h.grow.high h.product (t - s + k) start in
    omega arith

-- a flow's running amount leaves room for its next year
pub in_year_fits :
    (discount : ℕ) (w : Flow) (s t k : ℕ) → 1_000_000 ≤ discount → discount ≤ 1_200_000 → FlowFits discount w → t ≤ 300 → k ≤ 300
    → ServiceFits w.grow w.age discount (rounded discount (in_year w s t k))
in_year_fits discount w s t k low high h early few =
    let small = in_year-le discount w s t k (omega arith) h in
    record {
      plainly = record { low = low; high = high; grown = h.grow.high; room = omega arith };
      aged = h.age_high;
      product = h.product;
    }

-- a year of a flow in units
pub flow_units-le :
    (discount : ℕ) (w : Flow) (s t k : ℕ) → 0 < discount → FlowFits discount w → t ≤ 300 → k ≤ 300
    → rounded discount (in_year w s t k) ≤ largest_payment
flow_units-le discount w s t k positive fits early few = omega (arith, in_year-le discount w s t k positive fits, fits.amount)

paid_if-le : (φ : Payment → ℕ) (holds : Bool) (p : Payment) → sum_of φ (paid_if holds p) ≤ φ p
paid_if-le φ true p = rw (Sum.paid_if-true φ p) (omega arith)
paid_if-le φ false p = rw (Sum.paid_if-false φ p) (omega arith)

pub for_each-le :
    (φ : Payment → ℕ) (b n : ℕ) (f : ℕ → List Payment) → ((j : ℕ) → j < n → sum_of φ (f j) ≤ b) → sum_of φ (for_each n f) ≤ n * b
for_each-le φ b zero f h = rw (Sum.for_each-zero φ f) (omega arith)
for_each-le φ b (suc n) f h =
    let rest = for_each-le φ b n f (λ j l. h j (omega arith)) in
    let last = h n (omega arith) in
    rw (Sum.for_each-suc φ n f) (omega arith)

-- any figure that is small of the payments of an arc
module _ (φ : Payment → ℕ) (a : Kept) (h : KeptFits a) (m : ℕ) (small : Small φ a m) where
  -- of the first k overhauls those that some test lets through
  pub due_most :
      (due : ℕ → Bool) (k : ℕ) → k ≤ a.terms.overhauls.count → sum_of φ (for_each k (λ j. paid_if (due j) (overhaul a j))) ≤ k * largest_payment
  due_most due k few =
      for_each-le φ largest_payment k _ (λ j l. le_trans (paid_if-le φ (due j) (overhaul a j)) (small.overhauled j (omega arith)))

  added_most : (n : ℕ) → n < m → sum_of φ (added a n) ≤ 10 * largest_payment
  unfolding overhauls_at
  added_most n l =
      let few = h.terms.overhauls.count in
      let due = due_most (λ j. eqb (age_of a j) n) a.terms.overhauls.count (omega arith) in
      rw (Sum.added_total φ a n) (omega (arith, due, small.maintained n l, small.powered n l))

  walked_most : (n : ℕ) → n ≤ m → sum_of φ (walked a n) ≤ (10 * n + 1) * largest_payment
  walked_most zero l = rw (Sum.walked-zero φ a) (omega (arith, small.invested))
  walked_most (suc n) l = rw (Sum.walked-suc φ a n) (omega (arith, walked_most n (omega arith), added_most n (omega arith)))

-- of an arc at most 11 payments a year
pub paid_most : (φ : Payment → ℕ) (a : Kept) → KeptFits a → (n : ℕ) → Small φ a n → sum_of φ (paid a n) ≤ n * (11 * largest_payment)
paid_most φ a h zero small = rw (Sum.paid-zero φ a) (omega arith)
paid_most φ a h (suc n) small = rw (Sum.walked-paid φ a n) (omega (arith, walked_most φ a h (suc n) small (suc n) (omega arith)))

-- what it pays when it ends: one payment at most, and nothing at length 0
pub closing_most : (φ : Payment → ℕ) (a : Kept) (removed : Bool) (n T : ℕ) → Small φ a n → sum_of φ (closing a removed n T) ≤ largest_payment
unfolding closing
closing_most φ a removed n T small = le_trans (paid_if-le φ (closes a removed n T) (removal a (a.from + n))) small.removed

closing-zero : (φ : Payment → ℕ) (a : Kept) (removed : Bool) (T : ℕ) → sum_of φ (closing a removed 0 T) ≡ 0
unfolding closing
closing-zero φ a removed T = rw (and-false removed) (Sum.paid_if-false φ _)

-- with it at most 12 payments a year
pub whole_most :
    (φ : Payment → ℕ) (a : Kept) → KeptFits a → (removed : Bool) (n T : ℕ) → Small φ a n
    → sum_of φ (paid a n) + sum_of φ (closing a removed n T) ≤ n * yearly
whole_most φ a h removed zero T small = rw (Sum.paid-zero φ a, closing-zero φ a removed T) (omega arith)
whole_most φ a h removed (suc n) T small = omega (arith, paid_most φ a h (suc n) small, closing_most φ a removed (suc n) T small)

-- units are such a figure
module _ (a : Kept) (h : KeptFits a) where
  positive : 0 < a.discount
  positive = omega (arith, h.low)

  overhaul-le : (j : ℕ) → j < a.terms.overhauls.count → rounded a.discount (overhaul a j) ≤ largest_payment
  unfolding overhaul
  overhaul-le j l =
      let o = a.terms.overhauls in
      let small = once-le a.discount (get_or o.amounts j 0) o.grow (a.from + age_of a j) positive h.terms.overhauls.grow.high in
      let amount = h.terms.overhauls.amount j l in
      omega arith

  pub removal-le : (u : ℕ) → rounded a.discount (removal a u) ≤ largest_payment
  unfolding removal
  removal-le u =
      let w = a.terms.removal in
      omega (arith, once-le a.discount w.amount w.grow u positive h.terms.removal.grow.high, h.terms.removal.amount)

  pub units_small : (n : ℕ) → n ≤ 300 → Small (rounded a.discount) a n
  unfolding investment maintenance electricity
  units_small n few =
      let t = h.terms in
      let v = a.terms.investment in
      record {
        invested = omega (arith, once-le a.discount v.amount v.grow a.from positive t.investment.grow.high, t.investment.amount);
        overhauled = overhaul-le;
        maintained = λ k l. flow_units-le a.discount a.terms.maintenance a.from a.from (suc k) positive t.maintenance h.from (omega arith);
        powered = λ k l. flow_units-le a.discount a.terms.electricity a.since a.from (suc k) positive t.electricity h.from (omega arith);
        removed = removal-le (a.from + n);
      }

  -- what the first k overhauls cost in year n
  pub overhauls_le : (n k : ℕ) → k ≤ a.terms.overhauls.count → worth a (for_each k (at_age a n)) ≤ k * largest_payment
  overhauls_le n k few = due_most (rounded a.discount) a h 0 (units_small 0 (omega arith)) (λ j. eqb (age_of a j) n) k few

  pub walked-le : (n : ℕ) → n ≤ 300 → worth a (walked a n) ≤ (10 * n + 1) * largest_payment
  walked-le n few = walked_most (rounded a.discount) a h n (units_small n few) n (omega arith)

  pub paid-le : (n : ℕ) → n ≤ 300 → worth a (paid a n) ≤ n * (11 * largest_payment)
  paid-le n few = paid_most (rounded a.discount) a h n (units_small n few)

  pub whole_le : (removed : Bool) (n T : ℕ) → n ≤ 300 → whole_worth a removed n T ≤ n * yearly
  whole_le removed n T few = whole_most (rounded a.discount) a h removed n T (units_small n few)
