-- An arc extended year by year: after n years the walk stands where an arc of n years does. Assumes nothing.
use Prim.Native.Nat.{◌-◌, ◌≤◌}
use mathlib.Core.Path.{◌≡◌}
use Rattle.costing.specs.Walk.{walk_at}
use Rattle.costing.proofs.Kept.paid.Given as goal

abbrev pub invariant-loop-n : goal.invariant-loop-n
invariant-loop-n l = (l.n ≤ l.years) × (l.walk ≡ walk_at l.self l.n)

abbrev pub decreases-loop-n : goal.decreases-loop-n
decreases-loop-n l = l.years - l.n
