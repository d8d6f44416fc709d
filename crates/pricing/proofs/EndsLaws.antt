-- One end more, and none: what the loops over a plan's ends need: whether replacements lead to T (`reaches_stop`, `reaches_next`,
-- `reaches_none`), their years (`climbs_more`, `climbs_next`) and what they cost (`spent_next`, `spent_none`); together they are `reaching` and `spending`. And the years
-- and the total of the chain in a plan (`ordered_read`, `total_read`). Assumes nothing.
use Prim.Native.Nat.{ℕ, ◌+◌, ◌-◌, ◌<◌, ◌≤◌}
use mathlib.Core.Path.{◌≡◌, subst}
use mathlib.Core.List.{List, [], ◌∷◌}
use mathlib.Core.Bool.{true, false}
use lib.Dec.{eqb}
use Rattle.base.specs.Lists.{sum_of}
use Rattle.base.specs.Numbers.{u16_at}
use Rattle.sheet.specs.Sheet.{PlanningSheet, maintain, renovate, replace}
use Rattle.sheet.proofs.ParsedLaws.{horizon_read}
use Rattle.costing.specs.Arc.{arc_of, cost}
use Rattle.costing.specs.Offered.{offered}
use Rattle.chain.specs.Chain.{replacements, activities, arcs_of, spent, rounded_total}
use Rattle.chain.specs.PlanBytes.{count_field, ends_at, decode}
use Rattle.chain.specs.Ordered.{Climbs, Ordered}
use Rattle.chain.proofs.PlanBytesLaws.{ends_next, ends_more, ends_done}
use Rattle.chain.proofs.FeasibleLaws.{climbs_rest}
use Rattle.pricing.specs.Fitting.{reaches}

-- the next end, and the others
module _ {ends others : List ℕ} {end : ℕ} (next : ends ≡ end ∷ others) where
  pub reaches_stop : (p : PlanningSheet) (y : ℕ) → offered p replace y end ≡ false → reaches p y ends ≡ false
  unfolding reaches
  reaches_stop p y out = rw (next, out)

  pub reaches_next : (p : PlanningSheet) (y : ℕ) → offered p replace y end ≡ true → reaches p y ends ≡ reaches p end others
  unfolding reaches
  reaches_next p y found = rw (next, found)

  pub climbs_more : (T y : ℕ) → Climbs T y ends → (y < end) × Climbs T end others
  climbs_more T y h = let k = subst (Climbs T y) next h in (k.rising.0, climbs_rest k)

  pub spent_next : (p : PlanningSheet) (y : ℕ) → spent p (replacements y ends) ≡ cost (arc_of p replace y end) + spent p (replacements end others)
  unfolding sum_of arcs_of replacements
  spent_next p y = rw next

-- the years behind the next end, where the ends are read from any place on
pub climbs_next :
    (plan : List ℕ) (at left : ℕ) → 0 < left → {end : ℕ} → end ≡ u16_at plan at → (T y : ℕ)
    → Climbs T y (ends_at plan at left) → (y < end) × Climbs T end (ends_at plan (at + 2) (left - 1))
climbs_next plan at left more read = climbs_more (rw read (ends_next plan at left more))

-- no end
module _ (p : PlanningSheet) (y : ℕ) {ends : List ℕ} (none : ends ≡ []) where
  pub reaches_none : reaches p y ends ≡ eqb y p.horizon
  unfolding reaches
  reaches_none = rw none

  pub spent_none : spent p (replacements y ends) ≡ 0
  unfolding sum_of arcs_of replacements
  spent_none = rw none

-- what a walk over the ends asks for, as it tests them and as it adds what they cost
pub ruleset reaching = (ends_more, ends_done, reaches_next, reaches_none, horizon_read)

pub ruleset spending = (ends_more, ends_done, climbs_more, spent_next, spent_none)

-- where i, j and m are the numbers read from the plan
module _ (plan : List ℕ) {i j m : ℕ} (first : i ≡ u16_at plan 13) (second : j ≡ u16_at plan 15) (third : m ≡ count_field plan) where
  pub ordered_read : (T : ℕ) → Ordered T (decode plan) → (i ≤ j) × Climbs T j (ends_at plan 19 m)
  unfolding decode
  ordered_read T h = rw (first, second, third) (h.ordered, h.climbs)

  pub total_read :
      (p : PlanningSheet)
      → cost (arc_of p maintain 0 i) + (cost (arc_of p renovate i j) + spent p (replacements j (ends_at plan 19 m)))
      ≡ rounded_total p (decode plan)
  unfolding rounded_total sum_of arcs_of activities decode
  total_read p = rw (first, second, third)
