-- The values of the years before this one are written, and the running value is this year's. Assumes nothing.
use Prim.Native.Nat.{ℕ, ◌+◌, ◌<◌}
use mathlib.Core.Path.{◌≡◌}
use lib.ListN.{get_or, length}
use Rattle.streams.specs.Streams.{Left, Reached}
use Rattle.streams.proofs.filling.stepped.Given as goal

abbrev pub invariant-loop-year : goal.invariant-loop-year
invariant-loop-year g l =
    record {
      running : Reached (goal.F-post g l.step) l.fn.first l.year l.value;
      size : length l.streams ≡ length l.initial.streams;
      written : (y : ℕ) → y < l.year → Reached (goal.F-post g l.step) l.fn.first y (record { 0 = get_or l.streams (l.at + y) 0 });
      left : Left l.at l.initial.streams l.streams;
    }
