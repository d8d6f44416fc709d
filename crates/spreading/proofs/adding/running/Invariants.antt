-- Before each year the amount is that of the year. Assumes nothing.
use Prim.Native.Nat.{◌≤◌}
use mathlib.Core.Path.{◌≡◌}
use Rattle.costing.specs.Arc.{in_year}
use Rattle.spreading.proofs.adding.running.Given as goal

abbrev pub invariant-loop : goal.invariant-loop
invariant-loop g l = record {
  since : l.since ≤ l.counter;
  by : l.counter ≤ l.year;
  stands : g.L.Ledger.number l.amount ≡ g.L.Ledger.figure l.ledger (in_year l.flow l.since l.counter 0);
}
