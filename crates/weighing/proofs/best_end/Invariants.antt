-- After n years the arc stands there, the next overhaul is known, and the ends up to n years after the start are weighed. Assumes nothing.
use mathlib.Core.Path.{◌≡◌}
use Rattle.costing.specs.Walk.{walk_at}
use Rattle.streams.specs.Streams.{Falls}
use Rattle.weighing.specs.Ends.{best_after, word_of}
use Rattle.weighing.proofs.best_end.Given as goal

abbrev pub invariant-loop-n : goal.invariant-loop-n
invariant-loop-n l =
    record {
      walks : l.walk ≡ walk_at l.kept l.n;
      years : l.walk.years ≡ l.n;
      falls : Falls l.kept l.n l.next;
      weighed : l.chosen ≡ best_after l.kept (word_of l.words) l.fn.best l.n;
    }
