-- How large the total of a chain can be (`rounded_total-lt`): a year of activities that follow each other adds at most 12 payments (`linked_le`),
-- so 64 bits hold the total of every feasible chain of a sheet that passes the checks, and its C form. Assumes nothing.
use Prim.Native.Nat.{ℕ, ◌+◌, ◌*◌, ◌≤◌, ◌<◌}
use mathlib.Core.List.{List, [], ◌∷◌}
use native.Mathlib.Omega.{arith}
use mathlib.Core.Path.{refl}
use Rattle.base.specs.Lists.{Every, sum_of}
use Rattle.base.specs.Answer.{total_bound}
use Rattle.sheet.specs.Sheet.{PlanningSheet}
use Rattle.sheet.specs.Parsed.{parsed}
use Rattle.sheet.proofs.ParsedLaws.{horizon_read}
use Rattle.checking.specs.Fit.{Fit}
use Rattle.costing.specs.Fit.{yearly}
use Rattle.costing.proofs.SheetArcLaws.{cost-le}
use Rattle.chain.specs.Chain.{Chain, Activity, activities, OffersActivity, Feasible, arcs_of, spent, rounded_total}
use Rattle.chain.specs.Ordered.{Linked}
use Rattle.chain.proofs.FeasibleLaws.{feasible_linked}

module _ (p : PlanningSheet) (fit : Fit (parsed p)) where
  -- activities that follow each other
  pub linked_le :
      (y : ℕ) (l : List Activity) (z : ℕ) → Every (OffersActivity p) l → Linked y l z → spent p l + y * yearly ≤ z * yearly
  unfolding sum_of arcs_of
  linked_le y [] z offered linked = omega arith
  linked_le y (a ∷ l) z offered linked =
      let o = offered.0 in
      let first = cost-le p a.option a.start a.end fit o.known o.forward o.inside in
      let rest = linked_le a.end l z offered.1 linked.1 in
      omega (arith, first, rest, linked.0, o.forward)

  -- the total and the number fit in 64 bits together: 2^56 is the first total that does not
  pub rounded_total-lt : (c : Chain) → Feasible p c → rounded_total p c < total_bound
  unfolding rounded_total
  rounded_total-lt c h =
      let horizon = horizon_read (parsed p) p refl in
      let room = linked_le 0 (activities c) p.horizon h.offered (feasible_linked p c h) in
      omega arith
