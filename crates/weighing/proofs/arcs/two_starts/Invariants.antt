-- After n years both arcs stand there, the next overhaul is known, and what they cost after each year so far is written. Assumes nothing.
use mathlib.Core.Path.{◌≡◌}
use lib.ListN.{length}
use Rattle.costing.specs.Walk.{walk_at}
use Rattle.streams.specs.Streams.{Falls}
use Rattle.weighing.specs.Ends.{Costs}
use Rattle.weighing.proofs.arcs.two_starts.Given as goal

abbrev pub invariant-loop-n : goal.invariant-loop-n
invariant-loop-n l =
    record {
      walks : l.walk ≡ walk_at l.kept l.n;
      years : l.walk.years ≡ l.n;
      besides : l.beside ≡ walk_at l.other l.n;
      years_beside : l.beside.years ≡ l.n;
      falls : Falls l.kept l.n l.next;
      same : length l.earlier ≡ length l.initial.earlier;
      same_later : length l.later ≡ length l.initial.later;
      costs : Costs l.kept l.n l.earlier;
      costs_later : Costs l.other l.n l.later;
    }
