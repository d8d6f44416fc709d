-- After n years the amount is that of year n, and the words have what the flow paid. Assumes nothing.
use Prim.Native.Nat.{◌+◌, ◌≤◌}
use mathlib.Core.Path.{◌≡◌}
use lib.ListN.{length}
use Rattle.costing.specs.Arc.{in_year}
use Rattle.spreading.specs.Raised.{Raised, flow_paid}
use Rattle.spreading.proofs.adding.add_flow.Given as goal

abbrev pub invariant-loop-n : goal.invariant-loop-n
invariant-loop-n g l = record {
  in_range : l.n ≤ l.years;
  stands : g.L.Ledger.number l.amount ≡ g.L.Ledger.figure l.ledger (in_year l.flow l.since (l.from + l.n) 0);
  same_length : length l.words ≡ length l.initial.words;
  raised : Raised (g.L.Ledger.figure l.ledger) l.initial.words l.words (flow_paid l.flow l.since l.from l.n);
}
