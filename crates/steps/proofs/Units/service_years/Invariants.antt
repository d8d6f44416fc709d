-- Steps in service, one after the other: after k of them the amount is the k-fold step's. Assumes nothing.
use Prim.Native.Nat.{◌≤◌, ◌-◌}
use mathlib.Core.Path.{◌≡◌}
use Rattle.steps.specs.Step.{in_service, repeated}
use Rattle.steps.proofs.Units.service_years.Given as goal

abbrev pub invariant-loop-k : goal.invariant-loop-k
invariant-loop-k l = (l.k ≤ l.years) × (l.now.0 ≡ repeated l.k (in_service l.grow l.age l.discount.by) l.initial.now.0)

abbrev pub decreases-loop-k : goal.decreases-loop-k
decreases-loop-k l = l.years - l.k
