-- The chosen chain, by the years of chains: i, j, k1, k2, .., km are those of a feasible chain exactly where maintaining, renovating and
-- replacements lead from 0 to T (`feasible-years`, `years_of`), with the chain's total (`rounded-years`), and the list that is chosen of them is
-- that of the chosen chain (`chain_of_chosen`). So no feasible chain has a smaller rounded total (`chosen_chain-le`), and there is at most one
-- chosen chain (`chosen_chain_only`). Assumes nothing.
use Prim.Native.Nat.{ℕ, ◌≤◌}
use mathlib.Core.Path.{◌≡◌, refl, ap, sym, subst}
use mathlib.Core.List.{List, [], ◌∷◌}
use mathlib.Core.Logic.{◌↔◌, inl, inr, ⊎_elim}
use native.Mathlib.Omega.{arith}
use Rattle.base.specs.Lists.{sum_of}
use Rattle.sheet.specs.Sheet.{PlanningSheet, maintain, renovate}
use Rattle.costing.proofs.OfferedLaws.{offered-iff}
use Rattle.choice.specs.Choice.{Before, Chosen}
use Rattle.choice.proofs.ChoiceLaws.{chosen_le, chosen_only}
use Rattle.chain.specs.Chain.{Chain, activities, Feasible, arcs_of, rounded_total}
use Rattle.chain.specs.ChosenChain.{TakenBefore, ChosenChain}
use Rattle.chain.specs.Years.{years, chain_of, Maintains, maintaining}
use Rattle.chain.proofs.FeasibleLaws.{feasible-parts}

module _ (p : PlanningSheet) where
  -- these are the years of feasible chains
  pub feasible-years : (c : Chain) → Maintains p (years c) ↔ Feasible p c
  feasible-years c =
      let parts = feasible-parts p c in
      let first = offered-iff p maintain 0 c.i in
      let second = offered-iff p renovate c.i c.j in (
        λ m. parts.1 (first.0 m.0, (second.0 m.1.0, m.1.1)),
        λ h. let h = parts.0 h in (first.1 h.0, (second.1 h.1.0, h.1.1)),
      )

  pub years_of : (xs : List ℕ) → Maintains p xs → years (chain_of xs) ≡ xs
  years_of [] m = absurd m
  years_of (i ∷ []) m = absurd m.1
  years_of (i ∷ j ∷ ks) m = refl

  pub rounded-years : (c : Chain) → maintaining p (years c) ≡ rounded_total p c
  unfolding rounded_total activities arcs_of sum_of
  rounded-years c = refl

  -- the order of choice of the years is the one that document 01 gives for chains
  taken_of_before : (c d : Chain) → Before (years c) (years d) → TakenBefore c d
  taken_of_before c d h =
      ⊎_elim (λ l. inl (omega arith))
      (λ i. inr (i.0, ⊎_elim (λ l. inl (omega arith)) (λ j. inr (j.0, j.1)) i.1)) h

  -- a list is chosen exactly when its chain is
  pub chain_of_chosen : (xs : List ℕ) → Chosen (Maintains p) (maintaining p) xs → ChosenChain p (chain_of xs)
  chain_of_chosen xs h =
      let c = chain_of xs in
      let same = sym (years_of xs h.member) in
      let h = subst (Chosen (Maintains p) (maintaining p)) same h in
      record {
        feasible = (feasible-years c).0 h.member;
        least =
            λ d f.
            rw (← rounded-years c, ← rounded-years d)
            (⊎_elim inl (λ e. inr (e.0, taken_of_before c d e.1)) (h.least (years d) ((feasible-years d).1 f)));
      }

  chosen_of_chain : (c : Chain) → ChosenChain p c → Chosen (Maintains p) (maintaining p) (years c)
  chosen_of_chain c h =
      record {
        member = (feasible-years c).1 h.feasible;
        least =
            λ xs m.
            let d = chain_of xs in
            let same = years_of xs m in
            rw (← same, rounded-years c, rounded-years d) (h.least d ((feasible-years d).0 (subst (Maintains p) (sym same) m)));
      }

  pub chosen_chain-le : (c : Chain) → ChosenChain p c → (d : Chain) → Feasible p d → rounded_total p c ≤ rounded_total p d
  chosen_chain-le c h d f =
      rw (← rounded-years c, ← rounded-years d)
      (chosen_le (Maintains p) (maintaining p) (years c) (chosen_of_chain c h) (years d) ((feasible-years d).1 f))

  pub chosen_chain_only : (c d : Chain) → ChosenChain p c → ChosenChain p d → c ≡ d
  chosen_chain_only c d h k =
      ap chain_of (chosen_only (Maintains p) (maintaining p) (years c) (years d) (chosen_of_chain c h) (chosen_of_chain d k))
