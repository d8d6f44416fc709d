-- Why 64 bits suffice for the words. In order:
--     flow_most, first_most      how much the parts of an arc add of a figure that is at most `largest_payment` of each payment (`Small`)
--     room_after, room_within, room-opened, room_overhauled, room_maintained, room-paid      words that leave room still do behind payments, and
--         behind each part of an arc
--     once_payable, year_payable, new_payable, kept_payable, kept_passes, arc_small, ledger_small      payments that the checks let pass; a ledger's figure is small of an arc
--     cents_small      money of the year is such a figure
--     year_behind, year-served      a flow in a year of an arc, by the year alone; how long it has been in service
-- Assumes nothing.
use Prim.Native.Nat.{ℕ, suc, ◌+◌, ◌-◌, ◌*◌, ◌≤◌, ◌<◌}
use mathlib.Core.Path.{◌≡◌, refl}
use mathlib.Core.Bool.{Bool}
use mathlib.Core.List.{List, [], ◌∷◌, ◌++◌}
use native.Mathlib.Omega.{arith}
use lib.Dec.{ltb}
use lib.ListN.{length}
use Rattle.base.specs.Lists.{sum_of}
use Rattle.base.proofs.ListsLaws.{sum_of-append, sum_of_one}
use Rattle.sheet.specs.declared.Flow.{Flow}
use Rattle.checking.specs.Fit.{FlowFits}
use Rattle.steps.specs.Payment.{Payment, once}
use Rattle.steps.specs.Fit.{largest_payment}
use Rattle.costing.specs.Arc.{in_year, investment, maintenance, electricity, age_of, overhaul, overhauls_below, paid, removal}
use Rattle.costing.specs.Fit.{yearly, KeptFits, Small}
use Rattle.costing.specs.declared.Kept.{Kept}
use Rattle.costing.proofs.SizeLaws.{for_each-le, due_most, paid_most}
use Rattle.spreading.specs.Raised.{Raised, first_overhauls, flow_paid, in_money}
use Rattle.spreading.specs.Asks.{before_payment, before_arc, Room, Payable, FlowPasses, MoneyFits}
use Rattle.spreading.specs.LedgerLaws.{cents-small}
use Rattle.spreading.specs.declared.Money.{Money}
use Rattle.spreading.proofs.RaisedLaws.{raised_both, raised-le}

module _ (φ : Payment → ℕ) where
  pub flow_most :
      (w : Flow) (s t n : ℕ) → ((k : ℕ) → k < n → φ (in_year w s t (suc k)) ≤ largest_payment) → sum_of φ (flow_paid w s t n) ≤ n * largest_payment
  flow_most w s t n h = for_each-le φ largest_payment n _ (λ k l. rw (sum_of_one φ (in_year w s t (suc k))) (h k l))

  module _ (a : Kept) (ok : KeptFits a) (n : ℕ) (small : Small φ a n) where
    pub first_most : (years j : ℕ) → j ≤ a.terms.overhauls.count → sum_of φ (first_overhauls a years j) ≤ 8 * largest_payment
    first_most years j few =
        let count = ok.terms.overhauls.count in
        omega (arith, due_most φ a ok n small (λ i. ltb (age_of a i) years) j few)

    overhauls_most : (years : ℕ) → sum_of φ (overhauls_below a years) ≤ 8 * largest_payment
    unfolding overhauls_below
    overhauls_most years = first_most years a.terms.overhauls.count (omega arith)

    maintained_most : sum_of φ (flow_paid a.terms.maintenance a.from a.from n) ≤ n * largest_payment
    maintained_most = flow_most a.terms.maintenance a.from a.from n (λ k l. unfold maintenance in small.maintained k l)

  -- words that leave room still do behind payments that add no more than that
  pub room_after :
      (counts : ℕ → Bool) (last b m limit : ℕ) (old new : List ℕ) (qs : List Payment) → Room counts old last b → length new ≡ length old
      → Raised φ old new qs → sum_of φ qs ≤ m → b + m ≤ limit → Room counts new last limit
  room_after counts last b m limit old new qs room same h most few =
      record {
        long = λ y early t. omega (arith, room.long y early t);
        low = λ y early t. omega (arith, room.low y early t, raised-le φ old new qs y h);
      }

-- and for fewer years, or a higher bound
pub room_within :
    (counts : ℕ → Bool) (last b last' b' : ℕ) (words : List ℕ) → Room counts words last b → last' ≤ last → b ≤ b' → Room counts words last' b'
room_within counts last b last' b' words room sooner higher =
    record {
      long = λ y early t. room.long y (omega arith) t;
      low = λ y early t. omega (arith, room.low y (omega arith) t);
    }

-- words that are at most what the years before an arc can have cost leave room behind each of its parts
module _ (φ : Payment → ℕ) (a : Kept) (ok : KeptFits a) (n : ℕ) (few : n ≤ 300) (small : Small φ a n) (counts : ℕ → Bool) (last : ℕ)
    (old : List ℕ) (room : Room counts old last (a.from * yearly)) where
  parts-room : (m : ℕ) (new : List ℕ) (qs : List Payment) → m ≤ 400 → length new ≡ length old → Raised φ old new qs → sum_of φ qs ≤ m * largest_payment → Room counts new last before_arc
  parts-room m new qs some same h most =
      let from = ok.from in
      room_after φ counts last (a.from * yearly) (m * largest_payment) before_arc old new qs room same h most (omega arith)

  pub room-opened : (one : List ℕ) → length one ≡ length old → Raised φ old one (investment a ∷ []) → Room counts one last before_arc
  room-opened one same h = parts-room 1 one (investment a ∷ []) (omega arith) same h (omega (arith, sum_of_one φ (investment a), small.invested))

  module _ (one two : List ℕ) (h : Raised φ old one (investment a ∷ [])) (i : Raised φ one two (overhauls_below a n)) where
    abbrev opened : List Payment
    opened = (investment a ∷ []) ++ overhauls_below a n

    opened_most : sum_of φ opened ≤ 9 * largest_payment
    opened_most =
        omega (arith, sum_of-append φ (investment a ∷ []) (overhauls_below a n), sum_of_one φ (investment a), small.invested, overhauls_most φ a ok n small n)

    pub room_overhauled : length two ≡ length old → Room counts two last before_arc
    room_overhauled same = parts-room 9 two opened (omega arith) same (raised_both φ old one two _ _ h i) opened_most

    pub room_maintained :
        (three : List ℕ) → length three ≡ length old → Raised φ two three (flow_paid a.terms.maintenance a.from a.from n)
        → Room counts three last before_arc
    room_maintained three same j =
        let m = flow_paid a.terms.maintenance a.from a.from n in
        parts-room (9 + n) three (opened ++ m) (omega arith) same (raised_both φ old two three opened m (raised_both φ old one two _ _ h i) j)
        (omega (arith, sum_of-append φ opened m, opened_most, maintained_most φ a ok n small))

  pub room-paid : (new : List ℕ) → length new ≡ length old → Raised φ old new (paid a n) → Room counts new last before_payment
  room-paid new same h =
      let from = ok.from in
      room_after φ counts last (a.from * yearly) (n * (11 * largest_payment)) before_payment old new (paid a n) room same h (paid_most φ a ok n small)
      (omega arith)

-- payments that the checks let pass, for a discount factor that a ledger is ready for
module _ (ready : ℕ → Type 0) where
  pub once_payable :
      (discount amount grow y : ℕ) → ready discount → 1_000_000 ≤ discount → discount ≤ 1_200_000 → amount ≤ 1_000_000_000 → grow ≤ discount
      → Payable ready (once amount grow y)
  unfolding once
  once_payable discount amount grow y suits low high small grown =
      record {
        discount = discount;
        suits = suits;
        low = low;
        high = high;
        rates = record { positive = omega arith; grown = grown; product = omega arith };
        aged = omega arith;
        amount = small;
      }

  pub year_payable : (w : Flow) (s t k : ℕ) → FlowPasses ready w → Payable ready (in_year w s t k)
  unfolding in_year
  year_payable w s t k h =
      record {
        discount = h.discount;
        suits = h.suits;
        low = h.low;
        high = h.high;
        rates = record { positive = omega (arith, h.low); grown = h.fits.grow.high; product = h.fits.product };
        aged = h.fits.age_high;
        amount = h.fits.amount;
      }

  pub new_payable : (w : Flow) (y : ℕ) → FlowPasses ready w → Payable ready (once w.amount w.grow y)
  new_payable w y h = once_payable h.discount w.amount w.grow y h.suits h.low h.high h.fits.amount h.fits.grow.high

  module _ (a : Kept) (ok : KeptFits a) (suits : ready a.discount) where
    pub kept_payable : (amount grow y : ℕ) → amount ≤ 1_000_000_000 → grow ≤ a.discount → Payable ready (once amount grow y)
    kept_payable amount grow y small grown = once_payable a.discount amount grow y suits ok.low ok.high small grown

    pub kept_passes : (w : Flow) → FlowFits a.discount w → FlowPasses ready w
    kept_passes w fits = record { discount = a.discount; suits = suits; low = ok.low; high = ok.high; fits = fits }

    -- a figure that is small of each of them is small of an arc
    pub arc_small :
        (φ : Payment → ℕ) (most : ℕ) → ((q : Payment) → Payable ready q → q.served ≤ most → φ q ≤ largest_payment) → (n : ℕ) → 300 + n ≤ most
        → Small φ a n
    unfolding investment overhaul maintenance electricity age_of removal once in_year
    arc_small φ most small n few =
        let t = ok.terms in
        let from = ok.from in
        record {
          invested = small _ (kept_payable _ _ _ t.investment.amount t.investment.grow.high) (omega arith);
          overhauled = λ j l. small _ (kept_payable _ _ _ (t.overhauls.amount j l) t.overhauls.grow.high) (omega arith);
          maintained = λ k l. small _ (year_payable _ _ _ _ (kept_passes _ t.maintenance)) (omega arith);
          powered = λ k l. small _ (year_payable _ _ _ _ (kept_passes _ t.electricity)) (omega arith);
          removed = small _ (kept_payable _ _ _ t.removal.amount t.removal.grow.high) (omega arith);
        }

    pub ledger_small :
        (φ : Payment → ℕ) → ((q : Payment) → Payable ready q → q.served ≤ 600 → φ q ≤ largest_payment) → (n : ℕ) → n ≤ 300 → Small φ a n
    ledger_small φ small n few = arc_small φ 600 small n (omega arith)

-- money of the year is small
pub cents_small : (m : Money) → MoneyFits m → (a : Kept) → KeptFits a → (n : ℕ) → Small (in_money m) a n
cents_small m h a ok n =
    arc_small (λ (discount : ℕ). MoneyFits m) a ok h (in_money m) (300 + n) (λ q p few. cents-small m q p) n (omega arith)

-- the year behind year n of an arc
pub year_behind : (w : Flow) (s t n : ℕ) → s ≤ t → in_year w s (t + n + 1) 0 ≡ in_year w s t (suc n)
unfolding in_year
year_behind w s t n old = let same : t + n + 1 - s + 0 ≡ t - s + suc n = omega arith in rw same refl

pub year-served : (w : Flow) (s t k : ℕ) → t + k ≤ 600 → (in_year w s t k).served ≤ 600
unfolding in_year
year-served w s t k early = omega arith
