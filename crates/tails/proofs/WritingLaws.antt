-- A list of one figure of the table's entries can be written from T down: first the figure of T (`last_first`), then that of each year before
-- (`last_more`), two at a time (`last_two`), from the same year (`last_same`), until all are written (`last_all`). The length is kept (`last-length`), and what is asked of the lists
-- holds on (`fillable_on`) and is what settling a year asks (`fillable_settles`). Assumes nothing.
use Prim.Native.Nat.{ℕ, suc, ◌+◌, ◌-◌, ◌≤◌, ◌<◌}
use mathlib.Core.Path.{◌≡◌, sym, ap, ◌∙◌}
use mathlib.Core.List.{List, map}
use native.Mathlib.Nat.{sub-zero, sub_self}
use native.Mathlib.Omega.{arith}
use lib.ListN.{length, set}
use lib.Seq.{length-sets}
use Rattle.base.proofs.StoreLaws.{sets-cons}
use Rattle.division.specs.declared.Divisor.{Divisor}
use Rattle.sheet.specs.Sheet.{PlanningSheet, replace}
use Rattle.sheet.specs.Parsed.{parsed}
use Rattle.sheet.specs.declared.Sheet.{Sheet}
use Rattle.sheet.proofs.ParsedLaws.{horizon_read}
use Rattle.checking.specs.Fit.{SheetFits}
use Rattle.choice.specs.Running.{Entry}
use Rattle.choice.specs.Table.{nothing_left, table}
use Rattle.choice.proofs.TableLaws.{table-last, table-cons}
use Rattle.tails.specs.Tail.{best_end, tail_from}
use Rattle.tails.specs.Words.{tails, of_years}
use Rattle.tails.specs.Writing.{with_year, of_last, YearWritten, TwoWritten, LastWritten, AllWritten, Settles, Fillable}

module _ (p : PlanningSheet) where
  -- the table of the years from y on
  abbrev from : ℕ → List Entry
  from y = table p.horizon (best_end p replace) (p.horizon - y)

-- any figure, written to any list
module _ (figure : Entry → ℕ) (p : PlanningSheet) (list : List ℕ) where
  from_last : of_last figure p 0 list ≡ set list p.horizon (figure nothing_left)
  unfolding of_last
  from_last = rw (table-last, sub-zero p.horizon)

  from_next :
      (y : ℕ) → y < p.horizon → (l : List ℕ) → l ≡ of_last figure p (p.horizon - (y + 1)) list
      → with_year figure p y l ≡ of_last figure p (p.horizon - y) list
  unfolding of_last tail_from
  from_next y h l later =
      let e : p.horizon - (p.horizon - y) ≡ y = omega arith in
      let f : p.horizon - (p.horizon - (y + 1)) ≡ suc y = omega arith in
      rw (later, e, f, table-cons p.horizon (best_end p replace) y h)
      (sym (sets-cons (map figure (from p (y + 1))) list y (figure (tail_from p y))))

  from_all : of_last figure p p.horizon list ≡ of_years figure p list
  unfolding of_last of_years tails
  from_all = rw (sub_self p.horizon)

  from-length : (n : ℕ) → length (of_last figure p n list) ≡ length list
  unfolding of_last
  from-length n = rw (length-sets)

-- the same of a sheet as the code holds it, and of the list at entry and the lists that follow
module _ (figure : Entry → ℕ) (s : Sheet) (list : List ℕ) where
  pub last_first :
      {new : List ℕ} (at : ℕ) → new ≡ set list at (figure nothing_left) → at ≡ s.horizon → LastWritten figure s s.horizon list new
  last_first at written here p read =
      let same = horizon_read s p read in
      let none : 0 ≡ p.horizon - s.horizon = omega (arith, same) in
      written
      ∙ ap (λ (T : ℕ). set list T (figure nothing_left)) (here ∙ same)
      ∙ sym (from_last figure p list)
      ∙ ap (λ (n : ℕ). of_last figure p n list) none

  pub last_same : (y z : ℕ) → y ≡ z → (new : List ℕ) → LastWritten figure s y list new → LastWritten figure s z list new
  last_same y z same new written p read = written p read ∙ ap (λ (y : ℕ). of_last figure p (p.horizon - y) list) same

  module _ (reached : ℕ) (early : reached ≤ s.horizon) (between : List ℕ) (written : LastWritten figure s reached list between) where
    one_more :
        (p : PlanningSheet) → s ≡ parsed p → 1 ≤ reached → with_year figure p (reached - 1) between ≡ of_last figure p (p.horizon - (reached - 1)) list
    one_more p read some =
        let before : p.horizon - reached ≡ p.horizon - (reached - 1 + 1) = omega arith in
        from_next figure p list (reached - 1) (omega (arith, early, horizon_read s p read)) between
        (written p read ∙ ap (λ (n : ℕ). of_last figure p n list) before)

    pub last_more :
        (after : List ℕ) → 1 ≤ reached → YearWritten figure s (reached - 1) between after → LastWritten figure s (reached - 1) list after
    last_more after some more p read = more p read ∙ one_more p read some

    pub last_two : (after : List ℕ) → 2 ≤ reached → TwoWritten figure s reached between after → LastWritten figure s (reached - 2) list after
    last_two after some two p read =
        let before : p.horizon - (reached - 1) ≡ p.horizon - (reached - 2 + 1) = omega arith in
        two p read
        ∙ from_next figure p list (reached - 2) (omega (arith, early, horizon_read s p read)) (with_year figure p (reached - 1) between)
        (one_more p read (omega arith) ∙ ap (λ (n : ℕ). of_last figure p n list) before)

  module _ (y : ℕ) (after : List ℕ) (written : LastWritten figure s y list after) where
    pub last-length : SheetFits s → length after ≡ length list
    last-length some = ap length (written some.sheet some.read) ∙ from-length figure some.sheet list (some.sheet.horizon - y)

    pub last_all : y ≡ 0 → AllWritten figure s list after
    last_all all p read =
        let whole : p.horizon - y ≡ p.horizon = omega arith in
        written p read ∙ ap (λ (n : ℕ). of_last figure p n list) whole ∙ from_all figure p list

-- what is handed to the writing is as asked after some writing too
pub fillable_on :
    (s : Sheet) (discount : Divisor) (streams ages words firsts ahead words' firsts' ahead' : List ℕ)
    → Fillable s discount streams ages words firsts ahead → length words' ≡ length words → length firsts' ≡ length firsts
    → length ahead' ≡ length ahead → Fillable s discount streams ages words' firsts' ahead'
fillable_on s discount streams ages words firsts ahead words' firsts' ahead' given long wide deep =
    record {
      sheet = given.sheet;
      divides = given.divides;
      lent = given.lent;
      enough = omega (arith, given.enough);
      places = omega (arith, given.places);
      behind = omega (arith, given.behind);
    }

pub fillable_settles :
    {s : Sheet} {discount : Divisor} {streams ages words firsts ahead : List ℕ} → Fillable s discount streams ages words firsts ahead
    → Settles s streams words firsts ahead
fillable_settles given =
    record { sheet = given.sheet; lent = given.lent.0; enough = given.enough; places = given.places; behind = given.behind }
