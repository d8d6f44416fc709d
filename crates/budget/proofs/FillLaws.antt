-- What the loops over a chain do to the words. An arc of a sheet (`arc_unpaid`, `arc_read`, `word-below`, `arc-room`, `units-below`, `cents-below`); one
-- replacement more and none, where `end` is the next end that stands in the plan (`ends_first`, `falls_next`, `falls_none`); the chain in a plan
-- (`chain_raised`); and all words, of units and of cents (`units_written`, `cents_written`). Assumes nothing.
use Prim.Native.Nat.{ℕ, suc, ◌+◌, ◌-◌, ◌*◌, ◌≤◌, ◌<◌}
use mathlib.Core.Path.{◌≡◌, refl, ap, ◌∙◌}
use mathlib.Core.List.{List, ◌++◌}
use mathlib.Core.Bool.{Bool, false, and-false}
use native.Mathlib.Omega.{arith}
use lib.ListN.{length, get_or}
use lib.Seq.{sets}
use Rattle.base.specs.Lists.{sum_of, listed}
use Rattle.base.specs.Numbers.{u16_at}
use Rattle.base.proofs.ListsLaws.{sum_of-append, length-listed, get_or-listed}
use Rattle.base.proofs.StoreLaws.{written_only}
use Rattle.sheet.specs.Sheet.{PlanningSheet, maintain, renovate, replace}
use Rattle.sheet.specs.Parsed.{parsed}
use Rattle.sheet.specs.declared.Sheet.{Sheet}
use Rattle.sheet.proofs.ParsedLaws.{horizon_read}
use Rattle.checking.specs.Fit.{Fit}
use Rattle.steps.specs.Payment.{Payment, rounded}
use Rattle.costing.specs.Arc.{pays_removal, kept_of, arc_of, paid, closes, closing, payments}
use Rattle.costing.specs.Fit.{yearly, Small}
use Rattle.costing.specs.declared.Kept.{Kept}
use Rattle.costing.proofs.SizeLaws.{units_small, whole_most}
use Rattle.costing.proofs.SheetArcLaws.{kept_of_fits, kept_read}
use Rattle.chain.specs.Chain.{replacements, activities, arcs_of, arcs, Feasible}
use Rattle.chain.specs.PlanBytes.{count_field, end_field, ends_at, decode}
use Rattle.chain.proofs.PlanBytesLaws.{ends_left, ends_more, ends_done}
use Rattle.nominal.specs.Nominal.{cents}
use Rattle.spreading.specs.Fallen.{falling, fallen}
use Rattle.spreading.specs.Raised.{up_to, in_money, Raised}
use Rattle.spreading.specs.Asks.{Below, Room, MoneyFits}
use Rattle.spreading.specs.declared.Money.{Money}
use Rattle.spreading.proofs.RaisedLaws.{raised_both, raised-le, paid_none, closing_unraised, fallen_behind, fallen-up_to, fallen_past}
use Rattle.spreading.proofs.SizeLaws.{cents_small}
use Rattle.budget.specs.Budget.{payments_of, units_in, units_of, cents_in, last_in_cents, cents_of}
use Rattle.budget.proofs.AddsLaws.{chain_by}

-- an arc of length 0 adds nothing
pub arc_unpaid :
    (φ : Payment → ℕ) (p : PlanningSheet) (option start end : ℕ) → start ≡ end → (l : List ℕ) → Raised φ l l (payments (arc_of p option start end))
unfolding payments arc_of
arc_unpaid φ p option start end same l =
    let a = (arc_of p option start end).kept in
    let r = pays_removal option in
    let none : end - start ≡ 0 = omega arith in
    let unclosed : closes a r (end - start) p.horizon ≡ false = rw (none, and-false r) refl in
    raised_both φ l l l _ _ (paid_none φ l a none) (closing_unraised φ l a r (end - start) p.horizon unclosed)

-- an arc of a sheet, of the option that is kept
module _ (s : Sheet) (option start end : ℕ) (known : option ≤ 2) (k : Kept) (made : k ≡ kept_of s option start)
    (removed : Bool) (pays : removed ≡ pays_removal option) (old new : List ℕ) where
  -- all that it pays
  abbrev paid_by : Kept → (r : Bool) (T : ℕ) → List Payment
  paid_by a r T = paid a (end - start) ++ closing a r (end - start) T

  abbrev added : List Payment
  added = paid_by k removed s.horizon

  module _ (φ : Payment → ℕ) (h : Raised φ old new added) where
    pub arc_read : (p : PlanningSheet) → s ≡ parsed p → Raised φ old new (payments (arc_of p option start end))
    unfolding payments arc_of
    arc_read p read y =
        let kept = made ∙ kept_read p option start end s read known in
        let T = horizon_read s p read in
        h y ∙ (λ i. get_or old y 0 + fallen φ y (paid_by (kept i) (pays i) (T i)))

  -- a year adds at most `yearly` to a word, of any figure that is small
  module _ (fit : Fit s) (forward : start ≤ end) (inside : end ≤ s.horizon) where
    word-below :
        (φ : Payment → ℕ) → Small φ k (end - start) → Raised φ old new added → (y : ℕ) → get_or old y 0 ≤ start * yearly
        → get_or new y 0 ≤ end * yearly
    word-below φ small h y low =
        let fits = kept_of_fits s fit option start known (omega arith) in
        let most : sum_of φ added ≤ (end - start) * yearly =
        rw (sum_of-append φ (paid k (end - start)) _) (whole_most φ k (rw made fits) removed (end - start) s.horizon small) in
        omega (arith, raised-le φ old new added y h, most)

    -- so it does in the years that a list counts
    pub arc-room :
        (φ : Payment → ℕ) → Small φ k (end - start) → Raised φ old new added → (counts : ℕ → Bool) → Room counts old s.horizon (start * yearly)
        → length new ≡ length old → Room counts new s.horizon (end * yearly)
    arc-room φ small h counts room same =
        record {
          long = λ y early t. omega (arith, room.long y early t);
          low = λ y early t. word-below φ small h y (room.low y early t);
        }

    -- and in either list, up to a last year
    module _ (last : ℕ) (room : Below last (start * yearly) old) where
      pub units-below : Raised (rounded k.discount) old new added → Below last (end * yearly) new
      units-below h y early =
          let fits = kept_of_fits s fit option start known (omega arith) in
          word-below (rounded k.discount) (units_small k (rw made fits) (end - start) (omega (arith, fit.horizon_high))) h y (room y early)

      pub cents-below : (m : Money) → MoneyFits m → Raised (in_money m) old new added → Below last (end * yearly) new
      cents-below m counts h y early =
          let fits = kept_of_fits s fit option start known (omega arith) in
          word-below (in_money m) (cents_small m counts k (rw made fits) (end - start)) h y (room y early)

-- all ends of a plan
pub ends_first : (plan : List ℕ) (count : ℕ) → ends_left plan count 0 ≡ ends_at plan 19 count
ends_first plan count = let e : count - 0 ≡ count = omega arith in rw e refl

module _ (φ : Payment → ℕ) (p : PlanningSheet) (y : ℕ) where
  -- what falls of replacements whose ends stand in a plan behind the first k: one more, and none
  abbrev pub falls : (plan : List ℕ) (count k start : ℕ) → ℕ
  falls plan count k start = fallen φ y (payments_of (arcs_of p (replacements start (ends_left plan count k))))

  pub falls_next :
      (plan : List ℕ) (count k : ℕ) (l : k < count) → {end : ℕ} (read : end ≡ end_field plan k) (start : ℕ)
      → falls plan count k start ≡ fallen φ y (payments (arc_of p replace start end)) + falls plan count (k + 1) end
  unfolding payments_of arcs_of replacements
  falls_next plan count k l {end} read start =
      rw (ends_more plan count k l read)
      (sum_of-append (falling φ y) (payments (arc_of p replace start end)) (payments_of (arcs_of p (replacements end (ends_left plan count (k + 1))))))

  pub falls_none : (plan : List ℕ) (count start : ℕ) → falls plan count count start ≡ 0
  unfolding sum_of payments_of arcs_of replacements
  falls_none plan count start = rw (ends_done plan count count (omega arith))

-- maintaining, renovating and the replacements, where i, j and m are the numbers read from the plan
pub chain_raised :
    (φ : Payment → ℕ) (p : PlanningSheet) (plan old one two new : List ℕ) {i j m : ℕ}
    → i ≡ u16_at plan 13 → j ≡ u16_at plan 15 → m ≡ count_field plan
    → Raised φ old one (payments (arc_of p maintain 0 i))
    → Raised φ one two (payments (arc_of p renovate i j))
    → Raised φ two new (payments_of (arcs_of p (replacements j (ends_at plan 19 m))))
    → Raised φ old new (payments_of (arcs p (decode plan)))
unfolding payments_of arcs_of activities decode
chain_raised φ p plan old one two new {i} {j} {m} first second third a b c y =
    rw (← first, ← second, ← third) (
    let replaced = payments_of (arcs_of p (replacements j (ends_at plan 19 m))) in
    omega (
      arith,
      a y,
      b y,
      c y,
      sum_of-append (falling φ y) (payments (arc_of p maintain 0 i)) (payments (arc_of p renovate i j) ++ replaced),
      sum_of-append (falling φ y) (payments (arc_of p renovate i j)) replaced,
    ))

-- words that were cleared in the years 0 to last, and then raised
module _ (old cleared new : List ℕ) (last : ℕ) (long : last < length old) (same : length new ≡ length old)
    (none : (y : ℕ) → y ≤ last → get_or cleared y 0 ≡ 0) (behind : (y : ℕ) → last < y → get_or cleared y 0 ≡ get_or old y 0) where
  words_written :
      (φ : Payment → ℕ) (f : ℕ → ℕ) (qs : List Payment) → Raised φ cleared new qs
      → ((y : ℕ) → y ≤ last → fallen φ y qs ≡ f y) → ((y : ℕ) → last < y → fallen φ y qs ≡ 0) → new ≡ sets old 0 (listed (suc last) f)
  words_written φ f qs h inside past =
      let size = length-listed (suc last) f in
      written_only old (listed (suc last) f) (omega (arith, size)) new same
      (λ y l. omega (arith, h y, none y (omega (arith, size)), inside y (omega (arith, size)), get_or-listed (suc last) f y 0 (omega (arith, size))))
      (λ y l. omega (arith, h y, behind y (omega (arith, size)), past y (omega (arith, size))))

  pub units_written :
      (p : PlanningSheet) → Fit (parsed p) → (plan : List ℕ) → last ≡ p.horizon → Feasible p (decode plan)
      → Raised (rounded (1_000_000 + p.rate)) cleared new (payments_of (arcs p (decode plan))) → new ≡ sets old 0 (units_of p (decode plan))
  unfolding units_of units_in
  units_written p fit plan far feasible h =
      let φ = rounded (1_000_000 + p.rate) in
      let qs = payments_of (arcs p (decode plan)) in
      words_written φ (λ y. fallen φ y qs) qs h (λ y l. refl)
      (λ y l. fallen_behind φ y p.horizon qs (chain_by p fit (decode plan) feasible) (omega arith))
      ∙ ap (λ (n : ℕ). sets old 0 (listed (suc n) (λ y. fallen φ y qs))) far

  pub cents_written :
      (p : PlanningSheet) (general : ℕ) (plan : List ℕ) → last ≡ last_in_cents p.horizon
      → Raised (up_to last (cents (1_000_000 + general))) cleared new (payments_of (arcs p (decode plan))) → new ≡ sets old 0 (cents_of p general (decode plan))
  unfolding cents_of cents_in
  cents_written p general plan far h =
      let φ = cents (1_000_000 + general) in
      let qs = payments_of (arcs p (decode plan)) in
      words_written (up_to last φ) (λ y. fallen φ y qs) qs h (λ y l. fallen-up_to last φ y qs l) (λ y l. fallen_past last φ y qs l)
      ∙ ap (λ (n : ℕ). sets old 0 (listed (suc n) (λ y. fallen φ y qs))) far
