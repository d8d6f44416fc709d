-- After j overhauls the sum is that of the first j.
use mathlib.Core.Path.{◌≡◌}
use Rattle.costing.proofs.WalkLaws.{due_by}
use Rattle.costing.proofs.Kept.overhauls_at.Given as goal

abbrev pub invariant-loop-j : goal.invariant-loop-j
invariant-loop-j l = l.sum ≡ due_by l.self l.n l.j
