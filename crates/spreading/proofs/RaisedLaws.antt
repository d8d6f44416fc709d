-- Laws of what falls in a year, and of words to which it was added, for every figure of a payment. In order:
--     once-year, flow_year, investment-year, removal-year      the years of payments
--     set_raised      a store that adds to a word
--     raised_one, raised_both      words, payment by payment
--     raised-le, below_raised, fallen_behind      what falls in a year is at most all, and nothing falls behind the last year
--     up_to_in, up_to_out, fallen-up_to, fallen_past      a figure up to a last year
--     raised_uncounted, flow_uncounted, flow_rest      payments of years that are not counted raise no word
--     raised_if, raised_unless      a payment that is due, and one that is not
--     overhauls_none, overhauls_next, overhauls_all      an arc's overhauls, one by one
--     flow_none, flow_next      a flow, year by year
--     paid_none, paid_raised      an arc but for its removal, part by part
--     closing_raised, closing_unraised      its removal, and none
-- Assumes nothing.
use Prim.Native.Nat.{ℕ, zero, suc, ◌+◌, ◌-◌, ◌≤◌, ◌<◌}
use mathlib.Core.Path.{◌≡◌, refl, sym, ◌∙◌}
use mathlib.Core.List.{List, [], ◌∷◌, ◌++◌}
use mathlib.Core.Bool.{Bool, true, false, true≢false}
use native.Mathlib.Nat.{add-zero}
use native.Mathlib.Omega.{arith}
use native.Mathlib.Numerals.{add-one}
use lib.Dec.{eqb, ltb}
use lib.ListN.{length, get_or, set}
use lib.Seq.{get_or-set_same, get_or-set_other}
use borrow.Author.Tests.{eqb-true, eqb-false, ne_eqb, le-leb, lt-leb}
use Rattle.base.specs.Lists.{Every, sum_of}
use Rattle.base.proofs.TestLaws.{by_test}
use Rattle.base.proofs.ListsLaws.{sum_of-append, sum_of_one}
use Rattle.sheet.specs.declared.Flow.{Flow}
use Rattle.steps.specs.Payment.{Payment, year, once}
use Rattle.costing.specs.Arc.{in_year, investment, maintenance, electricity, age_of, overhaul, for_each, paid_if, overhauls_below, paid, removal, closes, closing}
use Rattle.costing.specs.declared.Kept.{Kept}
use Rattle.costing.proofs.SumLaws as Sum
use Rattle.spreading.specs.Fallen.{in_only, falling, fallen}
use Rattle.spreading.specs.Raised.{up_to, RaisedIn, Raised, first_overhauls, flow_paid}
use Rattle.spreading.specs.Asks.{Below}

-- the years of payments
pub once-year : (amount grow y : ℕ) → year (once amount grow y) ≡ y
unfolding once year
once-year amount grow y = add-zero y

pub flow_year : (w : Flow) (s t k : ℕ) → s ≤ t → year (in_year w s t k) ≡ t + k
unfolding in_year year
flow_year w s t k old = omega arith

pub investment-year : (a : Kept) → year (investment a) ≡ a.from
unfolding investment
investment-year a = once-year a.terms.investment.amount a.terms.investment.grow a.from

pub removal-year : (a : Kept) (u : ℕ) → year (removal a u) ≡ u
unfolding removal
removal-year a u = once-year a.terms.removal.amount a.terms.removal.grow u

-- a store that adds to a word
pub set_raised : (l : List ℕ) (at v : ℕ) → at < length l → RaisedIn l (set l at (get_or l at 0 + v)) at v
unfolding in_only
set_raised l at v long y =
    by_test (eqb at y)
    (λ t. let e = eqb-true at y t in rw (t, ← e) (get_or-set_same l at (get_or l at 0 + v) 0 long))
    (λ t.
    let d = eqb-false at y t in
    rw (t, get_or-set_other l at y (get_or l at 0 + v) 0 (λ q. d (sym q))) (sym (add-zero _)))

module _ (φ : Payment → ℕ) where
  -- no payment, one, and two lists of them
  raised_none : (l : List ℕ) → Raised φ l l []
  unfolding sum_of
  raised_none l y = sym (add-zero _)

  pub raised_one :
      (old new : List ℕ) (q : Payment) {at v : ℕ} → at ≡ year q → v ≡ φ q → RaisedIn old new at v → Raised φ old new (q ∷ [])
  raised_one old new q e f h y = h y ∙ rw (e, f, sum_of_one (falling φ y) q)

  pub raised_both :
      (old middle new : List ℕ) (ps qs : List Payment) → Raised φ old middle ps → Raised φ middle new qs → Raised φ old new (ps ++ qs)
  raised_both old middle new ps qs h k y = omega (arith, h y, k y, sum_of-append (falling φ y) ps qs)

  -- none of a row, and one more
  raised_zero : (l : List ℕ) (f : ℕ → List Payment) → Raised φ l l (for_each 0 f)
  raised_zero l f y = omega (arith, Sum.for_each-zero (falling φ y) f)

  raised_next :
      (old middle new : List ℕ) (n : ℕ) (f : ℕ → List Payment) → Raised φ old middle (for_each n f) → Raised φ middle new (f n)
      → Raised φ old new (for_each (suc n) f)
  raised_next old middle new n f h k y = omega (arith, h y, k y, Sum.for_each-suc (falling φ y) n f)

  -- what falls in a year is at most all
  in_only-le : (at v y : ℕ) → in_only at v y ≤ v
  unfolding in_only
  in_only-le at v y = by_test (eqb at y) (λ t. rw t (omega arith)) (λ t. rw t (omega arith))

  fallen-le : (y : ℕ) (qs : List Payment) → fallen φ y qs ≤ sum_of φ qs
  unfolding sum_of
  fallen-le y [] = omega arith
  fallen-le y (q ∷ qs) = omega (arith, in_only-le (year q) (φ q) y, fallen-le y qs)

  pub raised-le : (old new : List ℕ) (qs : List Payment) (y : ℕ) → Raised φ old new qs → get_or new y 0 ≤ get_or old y 0 + sum_of φ qs
  raised-le old new qs y h = omega (arith, h y, fallen-le y qs)

  pub below_raised :
      (last b m : ℕ) (old new : List ℕ) (qs : List Payment) → Below last b old → Raised φ old new qs → sum_of φ qs ≤ m → Below last (b + m) new
  below_raised last b m old new qs h k l y early = omega (arith, h y early, raised-le old new qs y k)

  -- and nothing falls behind the last year of the payments
  pub fallen_behind : (y last : ℕ) (qs : List Payment) → Every (λ q. year q ≤ last) qs → last < y → fallen φ y qs ≡ 0
  unfolding sum_of in_only
  fallen_behind y last [] h l = refl
  fallen_behind y last (q ∷ qs) h l =
      let early = h.0 in
      rw (fallen_behind y last qs h.1 l, ne_eqb (year q) y (λ e. omega arith)) refl

-- a figure up to a last year
module _ (last : ℕ) (φ : Payment → ℕ) where
  pub up_to_in : (q : Payment) → year q ≤ last → up_to last φ q ≡ φ q
  unfolding up_to
  up_to_in q l = rw (le-leb (year q) last l)

  pub up_to_out : (q : Payment) → last < year q → up_to last φ q ≡ 0
  unfolding up_to
  up_to_out q l = rw (lt-leb (year q) last l)

  -- in a year up to the last it falls as the figure does, in a later one not at all
  falls_in : (y : ℕ) (q : Payment) → y ≤ last → falling (up_to last φ) y q ≡ falling φ y q
  unfolding in_only
  falls_in y q l =
      by_test (eqb (year q) y)
      (λ t. let e = eqb-true (year q) y t in rw (t, up_to_in q (omega arith)))
      (λ t. rw t)

  falls_out : (y : ℕ) (q : Payment) → last < y → falling (up_to last φ) y q ≡ 0
  unfolding in_only
  falls_out y q l =
      by_test (eqb (year q) y)
      (λ t. let e = eqb-true (year q) y t in rw (t, up_to_out q (omega arith)))
      (λ t. rw t)

  pub fallen-up_to : (y : ℕ) (qs : List Payment) → y ≤ last → fallen (up_to last φ) y qs ≡ fallen φ y qs
  unfolding sum_of
  fallen-up_to y [] l = refl
  fallen-up_to y (q ∷ qs) l = rw (falls_in y q l, fallen-up_to y qs l)

  pub fallen_past : (y : ℕ) (qs : List Payment) → last < y → fallen (up_to last φ) y qs ≡ 0
  unfolding sum_of
  fallen_past y [] l = refl
  fallen_past y (q ∷ qs) l = rw (falls_out y q l, fallen_past y qs l)

-- A figure that is 0 of the payments of years that are not counted; with a year all earlier ones are counted.
module _ (counts : ℕ → Bool) (earlier : (y z : ℕ) → y ≤ z → counts z ≡ true → counts y ≡ true) (φ : Payment → ℕ)
    (uncounted : (q : Payment) → counts (year q) ≡ false → φ q ≡ 0) where
  later : (y z : ℕ) → y ≤ z → counts y ≡ false → counts z ≡ false
  later y z l t = by_test (counts z) (λ v. absurd (true≢false (sym (earlier y z l v) ∙ t))) (λ v. v)

  falls_uncounted : (y : ℕ) (q : Payment) → counts (year q) ≡ false → falling φ y q ≡ 0
  unfolding in_only
  falls_uncounted y q t = by_test (eqb (year q) y) (λ v. rw (v, uncounted q t)) (λ v. rw v)

  pub raised_uncounted : (l : List ℕ) (q : Payment) → counts (year q) ≡ false → Raised φ l l (q ∷ [])
  raised_uncounted l q t y = omega (arith, sum_of_one (falling φ y) q, falls_uncounted y q t)

  -- the years of a flow behind one that is not counted raise no word either
  module _ (w : Flow) (s t : ℕ) (older : s ≤ t) where
    uncounted_year : (y j : ℕ) → counts (t + suc j) ≡ false → sum_of (falling φ y) (in_year w s t (suc j) ∷ []) ≡ 0
    uncounted_year y j v =
        let q = in_year w s t (suc j) in
        omega (arith, sum_of_one (falling φ y) q, falls_uncounted y q (rw (flow_year w s t (suc j) older) v))

    flow_more : (n : ℕ) → counts (t + suc n) ≡ false → (m y : ℕ) → fallen φ y (flow_paid w s t (n + m)) ≡ fallen φ y (flow_paid w s t n)
    flow_more n v zero y = rw (add-zero n)
    flow_more n v (suc m) y =
        let e : n + suc m ≡ suc (n + m) = omega arith in
        rw e (
        omega (
          arith,
          Sum.for_each-suc (falling φ y) (n + m) (λ k. in_year w s t (suc k) ∷ []),
          uncounted_year y (n + m) (later (t + suc n) (t + suc (n + m)) (omega arith) v),
          flow_more n v m y,
        ))

    pub flow_rest :
        (old new : List ℕ) (n m : ℕ) → n ≤ m → counts (t + n + 1) ≡ false → Raised φ old new (flow_paid w s t n) → Raised φ old new (flow_paid w s t m)
    flow_rest old new n m few v h y =
        let next : t + n + 1 ≡ t + suc n = omega arith in
        let same : n + (m - n) ≡ m = omega arith in
        omega (arith, h y, rw same at (flow_more n (rw next at v) (m - n) y))

    pub flow_uncounted : (l : List ℕ) (m : ℕ) → counts t ≡ false → Raised φ l l (flow_paid w s t m)
    flow_uncounted l m v =
        flow_rest l l 0 m (omega arith) (later t (t + 0 + 1) (omega arith) v)
        (λ y. omega (arith, Sum.for_each-zero (falling φ y) (λ k. in_year w s t (suc k) ∷ [])))

-- an arc, part by part
module _ (φ : Payment → ℕ) (old : List ℕ) where
  -- a payment that is due, and one that is not
  pub raised_if : (new : List ℕ) (due : Bool) (q : Payment) → due ≡ true → Raised φ old new (q ∷ []) → Raised φ old new (paid_if due q)
  unfolding paid_if
  raised_if new due q t h y = rw t (h y)

  pub raised_unless : (due : Bool) (q : Payment) → due ≡ false → Raised φ old old (paid_if due q)
  unfolding paid_if
  raised_unless due q t y = rw t (raised_none φ old y)

  -- the first overhauls of an arc: none, one more, and all
  pub overhauls_none : (a : Kept) (n : ℕ) → Raised φ old old (first_overhauls a n 0)
  overhauls_none a n = raised_zero φ old (λ i. paid_if (ltb (age_of a i) n) (overhaul a i))

  pub overhauls_next :
      (a : Kept) (n j : ℕ) (middle new : List ℕ) → Raised φ old middle (first_overhauls a n j)
      → let o = a.terms.overhauls in
      let age = get_or o.ages j 0 in
      Raised φ middle new (paid_if (ltb age n) (once (get_or o.amounts j 0) o.grow (a.from + age))) → Raised φ old new (first_overhauls a n (j + 1))
  unfolding overhaul age_of
  overhauls_next a n j middle new h k = rw (add-one j) (raised_next φ old middle new j _ h k)

  pub overhauls_all : (a : Kept) (n : ℕ) (new : List ℕ) → Raised φ old new (first_overhauls a n a.terms.overhauls.count) → Raised φ old new (overhauls_below a n)
  unfolding overhauls_below
  overhauls_all a n new h = h

  -- the first years of a flow: none, and one more
  pub flow_none : (w : Flow) (s t : ℕ) → Raised φ old old (flow_paid w s t 0)
  flow_none w s t = raised_zero φ old (λ j. in_year w s t (suc j) ∷ [])

  pub flow_next :
      (w : Flow) (s t n : ℕ) (middle new : List ℕ) {at v : ℕ} → s ≤ t → Raised φ old middle (flow_paid w s t n) → at ≡ t + n + 1
      → v ≡ φ (in_year w s t (suc n)) → RaisedIn middle new at v → Raised φ old new (flow_paid w s t (n + 1))
  flow_next w s t n middle new older h i e k =
      rw (add-one n)
      (raised_next φ old middle new n (λ j. in_year w s t (suc j) ∷ []) h
      (raised_one φ middle new (in_year w s t (suc n)) (omega (arith, flow_year w s t (suc n) older)) e k))

  -- an arc of no years, and one of a year or more
  pub paid_none : (a : Kept) {n : ℕ} → n ≡ 0 → Raised φ old old (paid a n)
  paid_none a none y = rw (none, Sum.paid-zero (falling φ y) a) (sym (add-zero _))

  pub paid_raised :
      (a : Kept) (n : ℕ) (one two three new : List ℕ) {began since : ℕ} → 0 < n → began ≡ a.from → since ≡ a.since
      → Raised φ old one (investment a ∷ [])
      → Raised φ one two (overhauls_below a n)
      → Raised φ two three (flow_paid a.terms.maintenance began a.from n)
      → Raised φ three new (flow_paid a.terms.electricity since a.from n)
      → Raised φ old new (paid a n)
  unfolding maintenance electricity
  paid_raised a zero one two three new some m e h i j k y = absurd (omega arith)
  paid_raised a (suc n) one two three new some m e h i j k y =
      omega (arith, h y, i y, rw m at (j y), rw e at (k y), sum_of_one (falling φ y) (investment a), Sum.paid-parts (falling φ y) a n)

  -- the removal of an arc, and none
  pub closing_raised :
      (a : Kept) (removed : Bool) (n T : ℕ) (new : List ℕ) → closes a removed n T ≡ true → Raised φ old new (removal a (a.from + n) ∷ [])
      → Raised φ old new (closing a removed n T)
  unfolding closing
  closing_raised a removed n T new t h = raised_if new (closes a removed n T) (removal a (a.from + n)) t h

  pub closing_unraised : (a : Kept) (removed : Bool) (n T : ℕ) → closes a removed n T ≡ false → Raised φ old old (closing a removed n T)
  unfolding closing
  closing_unraised a removed n T t = raised_unless (closes a removed n T) (removal a (a.from + n)) t
