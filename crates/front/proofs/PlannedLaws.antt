-- The planned chain is the one that document 01 asks: there is none exactly when no chain is feasible (`planned_none`, `planned-no_entry`), else
-- it is the chosen one, and its rounded total is the total (`planned_chosen`). The totals of renovating leave room (`renovated-le`).
-- Assumes nothing.
use Prim.Native.Nat.{ℕ, ◌-◌, ◌*◌, ◌≤◌}
use mathlib.Core.Path.{◌≡◌, ap, sym, subst, ◌∙◌}
use mathlib.Core.Logic.{◌↔◌}
use Rattle.sheet.specs.Sheet.{PlanningSheet, maintain, renovate}
use Rattle.sheet.specs.Parsed.{parsed}
use Rattle.checking.specs.Fit.{Fit}
use Rattle.costing.specs.Fit.{yearly}
use Rattle.costing.proofs.OfferedLaws.{offered-iff}
use Rattle.choice.specs.Running.{no_total, no_entry, Holds}
use Rattle.choice.proofs.HoldsLaws.{holds_none, holds_no_entry, holds_chosen}
use Rattle.chain.specs.Chain.{Chain, Reaches, Feasible, rounded_total, replaced}
use Rattle.chain.specs.ChosenChain.{ChosenChain}
use Rattle.chain.specs.Years.{years, chain_of, Renovates, renovating, Maintains, maintaining}
use Rattle.chain.proofs.ChosenLaws.{feasible-years, years_of, rounded-years, chain_of_chosen}
use Rattle.tails.specs.Tail.{tail_from}
use Rattle.tails.proofs.TailLaws.{room-lt, best_holds, tail_holds}
use Rattle.front.specs.Planned.{renovated, planned}

module _ (p : PlanningSheet) (fit : Fit (parsed p)) where
  renovated_holds : (i : ℕ) → Holds (Renovates p i) (renovating p i) ((p.horizon - i) * yearly) (renovated p i)
  unfolding renovated
  renovated_holds i =
      best_holds p fit renovate i (tail_from p) (Reaches p) (replaced p) (λ j on. tail_holds p fit j ((offered-iff p renovate i j).0 on).inside)

  -- where there is a total, it leaves room
  pub renovated-le : (i : ℕ) → ((renovated p i).total ≡ no_total → ⊥) → (renovated p i).total ≤ (p.horizon - i) * yearly
  renovated-le i there = (holds_chosen _ _ _ _ (renovated_holds i) there).2

  planned_holds : Holds (Maintains p) (maintaining p) ((p.horizon - 0) * yearly) (planned p)
  unfolding planned
  planned_holds = best_holds p fit maintain 0 (renovated p) (Renovates p) (renovating p) (λ i on. renovated_holds i)

  pub planned_none : ((planned p).total ≡ no_total) ↔ ((c : Chain) → Feasible p c → ⊥)
  planned_none =
      let none = holds_none _ _ _ _ planned_holds (room-lt p fit 0) in (
        λ q c f. none.0 q (years c) ((feasible-years p c).1 f),
        λ never. none.1 (λ xs m. never (chain_of xs) ((feasible-years p (chain_of xs)).0 (subst (Maintains p) (sym (years_of p xs m)) m))),
      )

  pub planned-no_entry : (planned p).total ≡ no_total → planned p ≡ no_entry
  planned-no_entry = holds_no_entry _ _ _ _ planned_holds (room-lt p fit 0)

  pub planned_chosen :
      ((planned p).total ≡ no_total → ⊥)
      → ChosenChain p (chain_of (planned p).ends) × ((planned p).total ≡ rounded_total p (chain_of (planned p).ends))
  planned_chosen there =
      let h = holds_chosen _ _ _ _ planned_holds there in
      let chain = chain_of (planned p).ends in
      let same = years_of p (planned p).ends h.0.member in (
        chain_of_chosen p (planned p).ends h.0,
        sym h.1 ∙ ap (maintaining p) (sym same) ∙ rounded-years p chain,
      )
