-- How many arcs a sheet offers: request 7 of document 02. Each is counted once, by the one test `offered`, whether a chain leads over it or not.
-- Definitions only.
use Rattle.std.specs.Prelude.{ℕ, suc, ◌+◌, ◌-◌, cond}
use Rattle.base.specs.Tally.{sum_over, how_many}
use Rattle.sheet.specs.Sheet.{PlanningSheet, maintain, renovate, replace}
use Rattle.costing.specs.Offered.{offered}

-- the arcs of an option from year y, all ending by T, zero lengths included
unfoldable pub arcs_from : PlanningSheet → (option y : ℕ) → ℕ
arcs_from p option y = how_many (offered p option y) y (suc (p.horizon - y))

-- maintain arcs from 0
abbrev pub maintain_arcs : PlanningSheet → ℕ
maintain_arcs p = arcs_from p maintain 0

-- renovate arcs from each end i of those
abbrev pub renovate_arcs_from : PlanningSheet → (i : ℕ) → ℕ
renovate_arcs_from p i = cond (offered p maintain 0 i) (arcs_from p renovate i) 0

unfoldable pub renovate_arcs : PlanningSheet → ℕ
renovate_arcs p = sum_over (renovate_arcs_from p) 0 (suc p.horizon)

-- replace arcs from each year below T
unfoldable pub replace_arcs : PlanningSheet → ℕ
replace_arcs p = sum_over (arcs_from p replace) 0 p.horizon

-- all of them
abbrev pub arcs_offered : PlanningSheet → ℕ
arcs_offered p = maintain_arcs p + renovate_arcs p + replace_arcs p
