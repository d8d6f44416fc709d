-- What the code that fills both lists asks. Definitions only.
use Rattle.std.specs.Prelude.{ℕ, ◌*◌, ◌≤◌, ◌<◌, Bool, List, length}
use Rattle.sheet.specs.declared.Sheet.{Sheet}
use Rattle.checking.specs.Fit.{Fit}
use Rattle.costing.specs.Fit.{yearly}
use Rattle.chain.specs.PlanBytes.{plan_size, count_field, decode}
use Rattle.chain.specs.Ordered.{Ordered}
use Rattle.spreading.specs.Asks.{Room}
use Rattle.budget.specs.Budget.{last_in_cents}

-- to add activities of a sheet from a year on to a list, as a ledger counts it: until then no word is more than the years before can have cost
pub record ListAsks (ready : ℕ → Type 0) (counts : ℕ → Bool) (words : List ℕ) (sheet : Sheet) (start : ℕ) : Type 0 where
  pub fit : Fit sheet
  pub suits : ready sheet.discount
  pub room : Room counts words sheet.horizon (start * yearly)

-- the chain in plan bytes: the bytes are there, and its years are in order
pub record PlanAsks (plan : List ℕ) (horizon : ℕ) : Type 0 where
  pub long : plan_size (count_field plan) ≤ length plan
  pub ordered : Ordered horizon (decode plan)

-- to fill both lists with what that chain pays
pub record FillAsks (units cents : List ℕ) (sheet : Sheet) (general : ℕ) : Type 0 where
  pub fit : Fit sheet
  pub inflation : general ≤ 50_000
  pub units_long : sheet.horizon < length units
  pub cents_long : last_in_cents sheet.horizon < length cents
