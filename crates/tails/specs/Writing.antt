-- How the words and the first ends are written, from T down: each is a list of one figure of the table's entries. Beside them the totals behind the
-- ends of a replacement are kept, which the choice from an earlier year goes by. Definitions only.
use Rattle.std.specs.Prelude.{ℕ, ◌≤◌, ◌+◌, ◌-◌, ◌%◌, ◌≡◌, List, map, length, set}
use Rattle.std.proofs.lemmas.List.Edits.{sets}
use Rattle.base.specs.Tally.{sum_over}
use Rattle.division.specs.declared.Divisor.{Divisor}
use Rattle.sheet.specs.Layout.{year_places}
use Rattle.sheet.specs.Sheet.{PlanningSheet, replace}
use Rattle.sheet.specs.Parsed.{parsed}
use Rattle.sheet.specs.declared.Sheet.{Sheet}
use Rattle.checking.specs.Fit.{SheetFits}
use Rattle.steps.specs.Fit.{Divides}
use Rattle.costing.specs.Arc.{kept_of}
use Rattle.costing.specs.declared.Kept.{Kept}
use Rattle.choice.specs.Running.{Entry, no_entry}
use Rattle.choice.specs.Table.{table}
use Rattle.chain.specs.Counting.{arcs_from}
use Rattle.streams.specs.Streams.{StreamsOf, Lent}
use Rattle.weighing.specs.Best.{in_short}
use Rattle.weighing.specs.Ends.{best_to, word_of}
use Rattle.weighing.specs.Ahead.{ahead_of, adds_at}
use Rattle.weighing.specs.declared.Best.{Best}
use Rattle.tails.specs.declared.Lent.{Lent as LentTogether}
use Rattle.tails.specs.Tail.{best_end, tail_from}
use Rattle.tails.specs.Words.{words_needed, total_of, of_years}

-- the choice of a replacement, by the totals behind its ends
abbrev pub chosen_by : Kept → (T : ℕ) (ahead : List ℕ) → Best
chosen_by a T ahead = best_to a T (word_of ahead) (in_short no_entry)

-- a list when the figure of year y is written
abbrev pub with_year : (figure : Entry → ℕ) → PlanningSheet → (y : ℕ) → List ℕ → List ℕ
with_year figure p y list = set list y (figure (tail_from p y))

-- when those of the last n years and of T are
unfoldable pub of_last : (figure : Entry → ℕ) → PlanningSheet → (n : ℕ) → List ℕ → List ℕ
of_last figure p n list = sets list (p.horizon - n) (map figure (table p.horizon (best_end p replace) n))

-- the totals behind the ends of an option are written from year y on: the total of the table's entry of the end year, with what ending there adds
abbrev pub AheadHeld : (option : ℕ) → Sheet → (y : ℕ) → (ahead : List ℕ) → Type 0
AheadHeld option s y ahead =
    (p : PlanningSheet) → s ≡ parsed p
    → (e : ℕ) → y ≤ e → e ≤ p.horizon → word_of ahead e ≡ ahead_of (total_of (tail_from p e)) (adds_at p option e)

-- a choice of a replacement from year y, by such totals
pub record ChosenBehind (s : Sheet) (y : ℕ) (ahead : List ℕ) (best : Best) : Type 0 where
  pub held : AheadHeld replace s (y + 1) ahead
  pub chosen : best ≡ chosen_by (kept_of s replace y) s.horizon ahead

-- what is written to a list of one figure: that of one year, those of the two years before one that was reached, of the years from y on, of all
abbrev pub YearWritten : (figure : Entry → ℕ) → Sheet → (y : ℕ) (before after : List ℕ) → Type 0
YearWritten figure s y before after = (p : PlanningSheet) → s ≡ parsed p → after ≡ with_year figure p y before

abbrev pub TwoWritten : (figure : Entry → ℕ) → Sheet → (reached : ℕ) (before after : List ℕ) → Type 0
TwoWritten figure s reached before after =
    (p : PlanningSheet) → s ≡ parsed p → after ≡ with_year figure p (reached - 2) (with_year figure p (reached - 1) before)

abbrev pub LastWritten : (figure : Entry → ℕ) → Sheet → (y : ℕ) (before after : List ℕ) → Type 0
LastWritten figure s y before after = (p : PlanningSheet) → s ≡ parsed p → after ≡ of_last figure p (p.horizon - y) before

abbrev pub AllWritten : (figure : Entry → ℕ) → Sheet → (before after : List ℕ) → Type 0
AllWritten figure s before after = (p : PlanningSheet) → s ≡ parsed p → after ≡ of_years figure p before

-- for request 7, which no call answers yet: how many arcs that takes, the replacements from each of n years, from year y on
abbrev pub YearsCounted : Sheet → (y n arcs : ℕ) → Type 0
YearsCounted s y n arcs = (p : PlanningSheet) → s ≡ parsed p → arcs ≡ sum_over (arcs_from p replace) y n

-- the writing goes on in pairs from T, if that is even, or from the year before it
abbrev pub even_year : Sheet → ℕ
even_year s = s.horizon - s.horizon % 2

-- what settling a year asks: a sheet that fits, the streams of its option replace, and a place for each year in the words, the first ends and the
-- totals behind
pub record Settles (s : Sheet) (streams words firsts ahead : List ℕ) : Type 0 where
  pub sheet : SheetFits s
  pub lent : StreamsOf s replace streams
  pub enough : words_needed ≤ length words
  pub places : year_places ≤ length firsts
  pub behind : year_places ≤ length ahead

-- what is asked of all that is handed to the writing: a sheet that fits, its divisor, the streams of its option replace, and a place for each year in
-- the words, the first ends and the totals behind
pub record Fillable (s : Sheet) (discount : Divisor) (streams ages words firsts ahead : List ℕ) : Type 0 where
  pub sheet : SheetFits s
  pub divides : Divides discount s.discount
  pub lent : Lent s replace streams ages
  pub enough : words_needed ≤ length words
  pub places : year_places ≤ length firsts
  pub behind : year_places ≤ length ahead

-- the same, with a sheet, its divisor and what is lent held together
abbrev pub FillableBy : LentTogether → (words firsts ahead : List ℕ) → Type 0
FillableBy l words firsts ahead = Fillable l.sheet l.discount l.streams.now l.ages.now words firsts ahead

-- what the choices of an option go by: a sheet that fits, its divisor, and what is lent for the option
pub record OptionLent (option : ℕ) (l : LentTogether) : Type 0 where
  pub sheet : SheetFits l.sheet
  pub divides : Divides l.discount l.sheet.discount
  pub lent : Lent l.sheet option l.streams.now l.ages.now
