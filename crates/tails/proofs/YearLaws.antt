-- The choice of a replacement from a year, by the totals behind its ends, is the table's (`chosen_tail`), and its total the word of the year
-- (`word_chosen`). The option, once it is kept, is the same from another year (`replace_next`), its arcs can be walked (`replace_walks`), and the
-- totals behind its ends are what the choice asks (`replace_behind`). Two years written one after the other are two (`two_written`). A replacement
-- within the horizon is well placed (`replace-placed`), and none ends at once (`not_at_once`). Assumes nothing.
use Prim.Native.Nat.{ℕ, ◌+◌, ◌-◌, ◌≤◌, ◌<◌}
use mathlib.Core.Path.{◌≡◌, refl, ap, sym, subst, ◌∙◌}
use mathlib.Core.List.{List}
use mathlib.Core.Bool.{true, false}
use mathlib.Core.Logic.{inl}
use native.Mathlib.Numerals.{add-one}
use native.Mathlib.Omega.{arith}
use lib.ListN.{length, set}
use lib.Seq.{get_or-set_same}
use Rattle.base.proofs.TestLaws.{by_test}
use Rattle.division.specs.declared.Divisor.{Divisor}
use Rattle.sheet.specs.Layout.{year_places}
use Rattle.sheet.specs.Sheet.{PlanningSheet, replace}
use Rattle.sheet.specs.Parsed.{parsed}
use Rattle.sheet.specs.declared.Sheet.{Sheet}
use Rattle.sheet.proofs.ParsedLaws.{horizon_read}
use Rattle.checking.specs.Fit.{Fit, SheetFits}
use Rattle.costing.specs.Arc.{kept_of, kept_from, arc_of, cost_to}
use Rattle.costing.specs.Offered.{placed, offered}
use Rattle.costing.specs.declared.Kept.{Kept}
use Rattle.costing.proofs.SheetArcLaws.{kept_read, kept_of_fits, replace-from}
use Rattle.costing.proofs.OfferedLaws.{placed-iff, offered-iff}
use Rattle.choice.specs.Running.{Entry, no_entry, entries, over_ends}
use Rattle.choice.proofs.RunningLaws.{over_start}
use Rattle.chain.proofs.FeasibleLaws.{replace_forward}
use Rattle.weighing.specs.Best.{in_short}
use Rattle.weighing.specs.Ends.{word_of, Walks, WordsBehind}
use Rattle.weighing.specs.Ahead.{ahead_of, adds_at}
use Rattle.weighing.specs.declared.Best.{Best}
use Rattle.weighing.proofs.SheetEndLaws.{lent_walks, cost_removed, ends_over}
use Rattle.tails.specs.Tail.{best_end, tail_from}
use Rattle.tails.specs.Writing.{chosen_by, AheadHeld, ChosenBehind, with_year, YearWritten, TwoWritten, Fillable}
use Rattle.tails.proofs.TailLaws.{tail_step}
use Rattle.tails.proofs.AheadLaws.{ahead_sums, words_behind}

-- a replacement within the horizon is well placed
pub replace-placed : (T y e : ℕ) → y < e → e ≤ T → placed T replace y e ≡ true
replace-placed T y e late inside = (placed-iff T replace y e).1 (((omega arith, inside), omega arith), inl (omega arith))

-- no replacement ends in the year in which it starts
pub not_at_once : (p : PlanningSheet) (y : ℕ) → offered p replace y y ≡ false
not_at_once p y =
    by_test (offered p replace y y)
    (λ t. let late = replace_forward p y y ((offered-iff p replace y y).0 t) in absurd (omega arith)) (λ t. t)

-- the choice of a replacement from year y, by the totals behind its ends
module _ (p : PlanningSheet) (fit : Fit (parsed p)) (s : Sheet) (read : s ≡ parsed p) (ahead : List ℕ) where
  tail_over :
      (y : ℕ) → y < p.horizon → ((e : ℕ) → y < e → e ≤ p.horizon → word_of ahead e ≡ ahead_of (tail_from p e).total (adds_at p replace e))
      → chosen_by (kept_of s replace y) p.horizon ahead ≡ in_short (tail_from p y)
  unfolding best_end
  tail_over y early held =
      let kept : (e : ℕ) → kept_of s replace y ≡ (arc_of p replace y e).kept = λ e. kept_read p replace y e s read (omega arith) in
      ends_over p replace y (kept_of s replace y) kept (word_of ahead) (adds_at p replace) (tail_from p) no_entry
      (λ e l m. replace-placed p.horizon y e l m) (λ e l. cost_removed p replace y (kept_of s replace y) kept e refl l)
      (λ e l m on. (held e l m, ahead_sums p fit replace (omega arith) e m))
      ∙ ap (λ (first : ℕ). in_short (over_ends entries (offered p replace y) (cost_to p replace y) (tail_from p) first no_entry (p.horizon - y))) (add-one y)
      ∙ ap in_short
      (sym (over_start entries (offered p replace y) (cost_to p replace y) (tail_from p) y no_entry (p.horizon - y) (not_at_once p y))
      ∙ sym (tail_step p y early))

-- so a choice by such totals is what the code keeps of the table's entry
pub chosen_tail :
    (s : Sheet) → Fit s → (y : ℕ) (ahead : List ℕ) (best : Best) → y < s.horizon → ChosenBehind s y ahead best
    → (p : PlanningSheet) → s ≡ parsed p → best ≡ in_short (tail_from p y)
chosen_tail s fit y ahead best early behind p read =
    let same = horizon_read s p read in
    behind.chosen ∙ ap (λ (T : ℕ). chosen_by (kept_of s replace y) T ahead) same
    ∙ tail_over p (subst Fit read fit) s read ahead y (omega (arith, same)) (λ e l m. behind.held p read e (omega arith) m)

-- and its total, once it is written, is the word of the year
pub word_chosen :
    (s : Sheet) → Fit s → (y : ℕ) (ahead : List ℕ) (best : Best) → y < s.horizon → ChosenBehind s y ahead best
    → (words words' : List ℕ) → y < length words → words' ≡ set words y best.total
    → (p : PlanningSheet) → s ≡ parsed p → word_of words' y ≡ (tail_from p y).total
word_chosen s fit y ahead best early behind words words' room written p read =
    ap (λ (l : List ℕ). word_of l y) written
    ∙ get_or-set_same words y best.total 0 room
    ∙ ap (λ (best : Best). best.total) (chosen_tail s fit y ahead best early behind p read)

-- the option replace, kept from a year, is the same when it is kept from another; its arcs can be walked, by what is handed to the writing, and are
-- chosen by the totals behind
module _ (s : Sheet) (y : ℕ) {a : Kept} (kept : a ≡ kept_of s replace y) where
  pub replace_next : (z : ℕ) → kept_from a z ≡ kept_of s replace z
  replace_next z = ap (λ (a : Kept). kept_from a z) kept ∙ replace-from s y z

  pub replace_walks :
      (discount : Divisor) (streams ages words firsts ahead : List ℕ) → Fillable s discount streams ages words firsts ahead
      → y ≤ s.horizon → Walks a discount s.horizon streams ages
  replace_walks discount streams ages words firsts ahead given early =
      rw kept
      (lent_walks s discount replace y streams ages (kept_of_fits s given.sheet.fit replace y (omega arith) (omega (arith, given.sheet.fit.horizon_high)))
      given.divides early given.lent)

  pub replace_behind :
      (ahead : List ℕ) → SheetFits s → y ≤ s.horizon → year_places ≤ length ahead → AheadHeld replace s (y + 1) ahead → WordsBehind a s.horizon ahead
  replace_behind ahead some early room held = rw kept (words_behind s some replace (omega arith) (kept_of s replace y) ahead early room held)

-- one year and the year before it are two
pub two_written :
    (figure : Entry → ℕ) (s : Sheet) (reached : ℕ) (before between after : List ℕ)
    → YearWritten figure s (reached - 1) before between → YearWritten figure s (reached - 2) between after
    → TwoWritten figure s reached before after
two_written figure s reached before between after first second p read = second p read ∙ ap (with_year figure p (reached - 2)) (first p read)
