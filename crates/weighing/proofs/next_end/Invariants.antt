-- The arcs before n are dearer, or have no total behind them. Assumes nothing.
use Prim.Native.Nat.{ℕ, ◌≤◌, ◌<◌}
use Rattle.weighing.specs.Ends.{word_of, Dearer}
use Rattle.weighing.proofs.next_end.Given as goal

abbrev pub invariant-loop-n : goal.invariant-loop-n
invariant-loop-n l = record { passed : (k : ℕ) → l.first ≤ k → k < l.n → Dearer l.kept (word_of l.words) l.total k }
