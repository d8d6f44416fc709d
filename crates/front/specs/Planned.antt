-- The chain that planning returns, as it is computed: replacements by the table, renovating by the replacements behind it, maintaining by
-- the renovating behind it. `PlannedLaws.antt` shows that it is the one that document 01 asks. Definitions only.
use Rattle.std.specs.Prelude.{ℕ}
use Rattle.sheet.specs.Sheet.{PlanningSheet, maintain, renovate}
use Rattle.choice.specs.Running.{Entry}
use Rattle.tails.specs.Tail.{best_end, tail_from}

-- renovating from year i and the replacements after it; the years of its list are j, k1, k2, .., km
unfoldable pub renovated : PlanningSheet → ℕ → Entry
renovated p i = best_end p renovate (tail_from p) i

-- the whole chain; the years of its list are i, j, k1, k2, .., km
unfoldable pub planned : PlanningSheet → Entry
planned p = best_end p maintain (renovated p) 0
