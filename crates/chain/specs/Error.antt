-- How far a chain's rounded total may lie from its exact value. Definitions only.
use Rattle.std.specs.Prelude.{ℕ, ◌+◌, ◌*◌, ◌≤◌}
use Rattle.sheet.specs.Sheet.{PlanningSheet}
use Rattle.steps.specs.Exact.{common}
use Rattle.chain.specs.Chain.{Chain, exact_value}

-- document 01's common denominator of a sheet's exact values, 10^(6T) × (10^6 + r)^T
abbrev pub denominator : PlanningSheet → ℕ
denominator p = common p.horizon (1_000_000 + p.rate)

-- the most that a total may lie above the exact value, in units
unfoldable pub most_above : (T : ℕ) → ℕ
most_above T = 3 * (T * T) + T

-- The units are never below the chain's exact value, and at most 3T² + T above it: said on whole numbers, multiplied by the common denominator.
pub record TotalNear (p : PlanningSheet) (c : Chain) (units : ℕ) : Type 0 where
  pub high : units * denominator p ≤ exact_value p c + most_above p.horizon * denominator p
  pub low : exact_value p c ≤ units * denominator p
