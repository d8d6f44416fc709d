-- A chain's rounded total against its exact value: the allowances of activities that follow each other add up (`linked_allowed`), to 3T² + T units
-- at T (`allowance_whole`), so it is never below it and at most that far above (`total_near`); and of two chains, if the first's rounded total is at
-- most the second's, its exact value is at most that far above the second's (`chain_loss`). The exact value of every payment of a feasible chain is
-- whole (`chain_whole`). Assumes nothing.
use Prim.Native.Nat.{ℕ, ◌+◌, ◌-◌, ◌*◌, ◌≤◌}
use mathlib.Core.Path.{◌≡◌}
use mathlib.Core.List.{List, [], ◌∷◌}
use native.Mathlib.Nat.{mul-le-mul_left}
use native.Mathlib.Omega.{arith}
use borrow.Author.Tests.{le-ltb}
use Rattle.base.specs.Lists.{Every, sum_of}
use Rattle.base.proofs.ListsLaws.{every_map, every_mapped}
use Rattle.sheet.specs.Sheet.{PlanningSheet, sheet_of}
use Rattle.sheet.specs.Parsed.{parsed}
use Rattle.checking.specs.Passes.{Passes}
use Rattle.checking.specs.Fit.{Fit}
use Rattle.steps.specs.Step.{above, below}
use Rattle.steps.specs.Exact.{Whole}
use Rattle.costing.specs.Arc.{Arc, arc_of, payments, cost, exact_cost}
use Rattle.costing.specs.Error.{allowance}
use Rattle.costing.specs.Fit.{Between}
use Rattle.costing.proofs.ErrorOfArc.{between_add, arc_between}
use Rattle.costing.proofs.SheetArcLaws.{arc_fits}
use Rattle.costing.proofs.CostLaws.{offered_whole}
use Rattle.chain.specs.Chain.{Chain, Activity, activities, OffersActivity, Feasible, arcs_of, spent, arcs, rounded_total, exact_value}
use Rattle.chain.specs.Error.{denominator, most_above, TotalNear}
use Rattle.chain.specs.Ordered.{Linked}
use Rattle.chain.proofs.FeasibleLaws.{feasible_linked}

-- what is allowed to year T, in halves of a unit: 6T² + 2T
pub allowance_whole : (T : ℕ) → allowance T T ≡ 2 * most_above T
unfolding allowance most_above
allowance_whole T = rw (le-ltb T T (omega arith)) (omega arith)

module _ (p : PlanningSheet) (fit : Fit (parsed p)) where
  abbrev allowed_to : ℕ → ℕ
  allowed_to y = allowance p.horizon y

  -- an activity, between the allowances of its start and its end
  activity_allowed :
      (a : Activity) → OffersActivity p a
      → let arc = arc_of p a.option a.start a.end in
      Between (cost arc) (exact_cost arc) (denominator p) (allowed_to a.start) (allowed_to a.end)
  unfolding arc_of
  activity_allowed a o =
      let years : a.start + (a.end - a.start) ≡ a.end = omega (arith, o.forward) in
      rw years at (arc_between (arc_of p a.option a.start a.end) (arc_fits p _ _ _ fit o.known o.forward o.inside))

  -- activities that follow each other
  pub linked_allowed :
      (y : ℕ) (l : List Activity) (z : ℕ) → Every (OffersActivity p) l → Linked y l z
      → Between (spent p l) (sum_of exact_cost (arcs_of p l)) (denominator p) (allowed_to y) (allowed_to z)
  unfolding sum_of arcs_of
  linked_allowed y [] z offered linked = rw linked (record { high = omega arith; low = omega arith })
  linked_allowed y (a ∷ l) z offered linked =
      rw (← linked.0) (between_add (activity_allowed a offered.0) (linked_allowed a.end l z offered.1 linked.1))

  pub total_near : (c : Chain) → Feasible p c → TotalNear p c (rounded_total p c)
  unfolding rounded_total exact_value above below
  total_near c h =
      let chain = linked_allowed 0 (activities c) p.horizon h.offered (feasible_linked p c h) in
      omega (arith, rw (allowance_whole p.horizon) at chain)

  -- for two feasible chains: the first is not below its exact value, the second at most 3T² + T units above
  pub chain_loss :
      (c d : Chain) → Feasible p c → Feasible p d → rounded_total p c ≤ rounded_total p d
      → exact_value p c ≤ exact_value p d + most_above p.horizon * denominator p
  chain_loss c d h k le = omega (arith, total_near c h, total_near d k, mul-le-mul_left (denominator p) le)

-- each payment of each arc
pub chain_whole :
    (s : List ℕ) → Passes s → (c : Chain) → Feasible (sheet_of s) c
    → Every (λ (a : Arc). Every (Whole (sheet_of s).horizon (1_000_000 + (sheet_of s).rate)) (payments a)) (arcs (sheet_of s) c)
unfolding arcs_of
chain_whole s h c f =
    every_mapped _ _ (activities c)
    (every_map (OffersActivity (sheet_of s)) _ (λ a o. offered_whole s a.option a.start a.end h o) (activities c) f.offered)
