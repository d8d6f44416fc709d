-- The lent words after planning: document 01, 'Feasible chains', third paragraph, as request 3 of document 02 has it. Definitions only.
use Rattle.std.specs.Prelude.{ℕ, List, map}
use Rattle.std.proofs.lemmas.List.Edits.{sets}
use Rattle.base.specs.Lists.{first_of}
use Rattle.sheet.specs.Sheet.{PlanningSheet, replace}
use Rattle.choice.specs.Running.{Entry}
use Rattle.choice.specs.Table.{table}
use Rattle.tails.specs.Tail.{best_end}

-- planning wants 301 words, one for each year that a sheet can have
abbrev pub words_needed : ℕ
words_needed = 301

-- the figures of an entry that are written: its total, to the lent words; and the end of the first replacement, 0 if there is none, which
-- planning keeps for itself
abbrev pub total_of : Entry → ℕ
total_of t = t.total

abbrev pub first_end : Entry → ℕ
first_end t = first_of t.ends

-- the entries of the years 0 to T
unfoldable pub tails : PlanningSheet → List Entry
tails p = table p.horizon (best_end p replace) p.horizon

-- a list when a figure of each entry is written: place y, for y from 0 to T, becomes that of year y; other places keep their content
unfoldable pub of_years : (figure : Entry → ℕ) → PlanningSheet → List ℕ → List ℕ
of_years figure p list = sets list 0 (map figure (tails p))

-- Word y, for y from 0 to T, becomes the least rounded total of replacements alone from y to T. Other words keep their content.
abbrev pub tail_words : PlanningSheet → List ℕ → List ℕ
tail_words p words = of_years total_of p words
