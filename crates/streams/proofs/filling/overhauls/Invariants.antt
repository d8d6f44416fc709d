-- The first j overhauls' streams are in place, and what lies before them is left. Assumes nothing.
use mathlib.Core.Path.{◌≡◌}
use lib.ListN.{length}
use Rattle.streams.specs.Streams.{Left, part, OverhaulStreams}
use Rattle.streams.proofs.filling.overhauls.Given as goal

abbrev pub invariant-loop-j : goal.invariant-loop-j
invariant-loop-j l =
    record {
      size : length l.streams ≡ length l.initial.streams;
      before : OverhaulStreams l.discount.by l.overhauls l.j l.last l.streams;
      left : Left (part 3) l.initial.streams l.streams;
    }
