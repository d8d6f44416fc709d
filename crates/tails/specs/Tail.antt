-- The table of the cheapest replacements from every year, as it is computed. `TailLaws.antt` shows that each entry is the one that document
-- 01 asks. Definitions only.
use Rattle.std.specs.Prelude.{ℕ, suc, ◌-◌}
use Rattle.sheet.specs.Sheet.{PlanningSheet, replace}
use Rattle.costing.specs.Arc.{cost_to}
use Rattle.costing.specs.Offered.{offered}
use Rattle.choice.specs.Running.{Entry, no_entry, entries, over_ends}
use Rattle.choice.specs.Table.{Rule, entry}

-- the choice of the end of an option kept from year y: of the years y to T those are weighed to which the sheet offers an arc, by the
-- entries behind them
unfoldable pub best_end : PlanningSheet → (option : ℕ) → Rule
best_end p option behind y = over_ends entries (offered p option y) (cost_to p option y) behind y no_entry (suc (p.horizon - y))

-- the replacements from year y
unfoldable pub tail_from : PlanningSheet → ℕ → Entry
tail_from p y = entry p.horizon (best_end p replace) y
