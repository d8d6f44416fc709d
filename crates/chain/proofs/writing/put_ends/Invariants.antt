-- End years are written one by one: those from k on, on the bytes so far, give what is asked. Assumes nothing.
use Prim.Native.Nat.{◌+◌, ◌*◌}
use mathlib.Core.Path.{◌≡◌}
use lib.ListN.{drop}
use lib.Seq.{sets}
use Rattle.chain.specs.PlanBytes.{end_bytes}
use Rattle.chain.proofs.writing.put_ends.Given as goal

abbrev pub invariant-loop-k : goal.invariant-loop-k
invariant-loop-k l = sets l.plan (19 + 2 * l.k) (end_bytes (drop l.k l.ends)) ≡ sets l.initial.plan 19 (end_bytes l.ends)
