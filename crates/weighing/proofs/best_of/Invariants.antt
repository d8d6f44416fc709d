-- The ends before `first` are weighed. Assumes nothing.
use Prim.Native.Nat.{◌+◌, ◌-◌, ◌≤◌, ◌<◌}
use mathlib.Core.Path.{◌≡◌}
use Rattle.weighing.specs.Ends.{best_after, word_of}
use Rattle.weighing.proofs.best_of.Given as goal

abbrev pub invariant-loop-n : goal.invariant-loop-n
invariant-loop-n l =
    record {
      within : l.first ≤ l.years;
      old : l.first < l.years → l.kept.terms.shortest ≤ l.first + 1;
      weighed : l.chosen ≡ best_after l.kept (word_of l.words) l.fn.best l.first;
    }

abbrev pub decreases-loop-n : goal.decreases-loop-n
decreases-loop-n l = l.years - l.first
