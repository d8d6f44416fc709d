-- What the arcs of an option cost, by their lengths: written one after the other (`costs_none`, `costs_next`), from a walk; and the same
-- option kept from another year (`kept_from_fits`, `falls_from`, `costs_to`). Assumes nothing.
use Prim.Native.Nat.{ℕ, ◌+◌, ◌-◌, ◌≤◌, ◌<◌, min}
use mathlib.Core.Path.{◌≡◌, ◌∙◌}
use mathlib.Core.List.{List}
use native.Mathlib.Omega.{arith}
use native.Mathlib.Nat.{not-suc-le-zero}
use lib.ListN.{length, set}
use Rattle.base.proofs.StoreLaws.{written_more}
use Rattle.costing.specs.Arc.{kept_from, age_of, paid, worth}
use Rattle.costing.specs.Fit.{KeptFits}
use Rattle.costing.specs.Walk.{walk_at}
use Rattle.costing.specs.declared.Kept.{Kept}
use Rattle.costing.specs.declared.Walk.{Walk}
use Rattle.costing.proofs.WalkLaws.{walk-paid}
use Rattle.streams.specs.Streams.{Falls}
use Rattle.weighing.specs.Ends.{Costs, CostsTo}

module _ (a : Kept) where
  pub kept_from_fits : KeptFits a → (y : ℕ) → y ≤ 300 → KeptFits (kept_from a y)
  kept_from_fits h y early = record { low = h.low; high = h.high; terms = h.terms; from = early; since = omega arith }

  -- which overhaul falls does not depend on the start
  pub falls_from : (y n next : ℕ) → Falls a n next → Falls (kept_from a y) n next
  unfolding age_of
  falls_from y n next falls = record { within = falls.within; behind = falls.behind; ahead = falls.ahead }

  pub costs_none : (costs : List ℕ) → Costs a 0 costs
  costs_none costs n l = absurd (not-suc-le-zero l)

  -- a walk of one year more gives the cost of the next arc
  pub costs_next :
      (n : ℕ) (costs : List ℕ) {i v : ℕ} (w : Walk) → Costs a n costs → i ≡ n → n < length costs → w ≡ walk_at a (n + 1) → v ≡ w.cost.0
      → Costs a (n + 1) (set costs i v)
  costs_next n costs w so_far place room stands value k l =
      rw place
      (written_more (λ k. k) (λ k. worth a (paid a (k + 1))) (λ k. k < n) (λ k. k < n + 1) costs n room
      (value ∙ walk-paid a w (n + 1) stands (omega arith)) (λ k d. d) (λ k l d. omega arith) so_far k l)

  -- of as many arcs as there are from a year, not a later one, up to the longest life or the horizon
  pub costs_to :
      (y T years : ℕ) (costs : List ℕ) → years ≡ min a.terms.longest (T - y) → y ≤ a.from → Costs a years costs → CostsTo a T costs
  costs_to y T years costs top later known n lives inside = known n (omega arith)
