-- After j overhauls the words have the first j. Assumes nothing.
use Prim.Native.Nat.{◌≤◌}
use mathlib.Core.Path.{◌≡◌}
use lib.ListN.{length}
use Rattle.spreading.specs.Raised.{Raised, first_overhauls}
use Rattle.spreading.proofs.adding.add_overhauls.Given as goal

abbrev pub invariant-loop-j : goal.invariant-loop-j
invariant-loop-j g l = record {
  in_range : l.j ≤ l.fn.kept.terms.overhauls.count;
  same_length : length l.words ≡ length l.initial.words;
  raised : Raised (g.L.Ledger.figure l.ledger) l.initial.words l.words (first_overhauls l.fn.kept l.years l.j);
}
