-- What stands in a list when a figure of each entry of the table is written to it: place y has that of year y (`years_read`), the places from
-- T + 1 on have what they had (`years_others`), and the length is kept (`years-length`). So the words after planning are those that are asked
-- (`words_cheapest`, `words_cheapest_of_passes`). Assumes nothing.
use Prim.Native.Nat.{ℕ, ◌≤◌, ◌<◌}
use mathlib.Core.Path.{◌≡◌, refl}
use mathlib.Core.List.{List, map}
use native.Mathlib.Omega.{arith}
use lib.ListN.{length, get_or}
use lib.Seq.{length-sets}
use Rattle.base.proofs.StoreLaws.{sets_other, sets_same}
use Rattle.sheet.specs.Sheet.{PlanningSheet, sheet_of, replace}
use Rattle.sheet.specs.Parsed.{parsed}
use Rattle.sheet.proofs.ParsedLaws.{horizon_read}
use Rattle.checking.specs.Passes.{Passes}
use Rattle.checking.specs.Fit.{Fit}
use Rattle.checking.proofs.FitLaws.{fit}
use Rattle.choice.specs.Running.{Entry, no_entry}
use Rattle.choice.specs.Table.{entry}
use Rattle.choice.proofs.TableLaws.{table-length}
use Rattle.tails.specs.Tail.{best_end, tail_from}
use Rattle.tails.specs.Words.{words_needed, total_of, tails, of_years, tail_words}
use Rattle.tails.specs.Cheapest.{CheapestWords}
use Rattle.tails.proofs.TailLaws.{tail_cheapest}

module _ (figure : Entry → ℕ) (p : PlanningSheet) (list : List ℕ) where
  pub years_read : p.horizon < length list → (y : ℕ) → y ≤ p.horizon → get_or (of_years figure p list) y 0 ≡ figure (tail_from p y)
  unfolding of_years tails tail_from entry
  years_read room y l =
      let many = table-length p.horizon (best_end p replace) p.horizon in
      sets_same figure (tails p) no_entry list 0 y y (omega arith) (omega arith) (omega arith)

  pub years_others : (k : ℕ) → p.horizon < k → get_or (of_years figure p list) k 0 ≡ get_or list k 0
  unfolding of_years tails
  years_others k out =
      let many = table-length p.horizon (best_end p replace) p.horizon in
      sets_other figure (tails p) list 0 k (λ h. omega arith)

  pub years-length : length (of_years figure p list) ≡ length list
  unfolding of_years
  years-length = length-sets list 0 (map figure (tails p))

pub words_cheapest :
    (p : PlanningSheet) → Fit (parsed p) → (words : List ℕ) → words_needed ≤ length words → CheapestWords p words (tail_words p words)
words_cheapest p fit words room =
    let far : p.horizon ≤ 300 = omega (arith, fit.horizon_high, horizon_read (parsed p) p refl) in
    record {
      cheapest = λ y l. rw (years_read total_of p words (omega arith) y l) (tail_cheapest p fit y l);
      others = years_others total_of p words;
      length_kept = years-length total_of p words;
    }

-- for every sheet that passes the checks, and all lists of 301 words or more, whatever they held
pub words_cheapest_of_passes :
    (sheet : List ℕ) → Passes sheet → (words : List ℕ) → words_needed ≤ length words
    → CheapestWords (sheet_of sheet) words (tail_words (sheet_of sheet) words)
words_cheapest_of_passes sheet h = words_cheapest (sheet_of sheet) (fit sheet h)
