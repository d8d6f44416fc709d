-- How far the rounded value of an arc may lie from the exact one. Definitions only.
use Rattle.std.specs.Prelude.{ℕ, ◌+◌, ◌*◌, ◌≤◌, cond, ltb}
use Rattle.steps.specs.Exact.{common}
use Rattle.costing.specs.Arc.{Arc, exact_cost}

-- how far above the exact value the years from 0 to y may lie, in halves of a unit: 6y² + 4y before T, and 6T² + 2T at T, where no removal is paid
unfoldable pub allowance : (T y : ℕ) → ℕ
allowance T y = cond (ltb y T) (6 * (y * y) + 4 * y) (6 * (T * T) + 2 * T)

-- The units of an arc from t to u are never below its exact value, and above it by at most half of what is allowed to year u less what is to year t:
-- said on whole numbers, multiplied by the common denominator D.
pub record WithinAllowance (a : Arc) (units : ℕ) : Type 0 where
  pub high :
      let D = common a.horizon a.kept.discount in
      2 * (units * D) + allowance a.horizon a.kept.from * D ≤ 2 * exact_cost a + allowance a.horizon (a.kept.from + a.years) * D
  pub low :
      let D = common a.horizon a.kept.discount in
      exact_cost a ≤ units * D
