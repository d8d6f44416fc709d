-- The totals behind the ends of renovating, from the horizon down: those from the year that is reached on are held.
use Rattle.sheet.specs.Sheet.{renovate}
use Rattle.tails.specs.Writing.{AheadHeld}
use Rattle.front.proofs.renovating.look_ahead.Given as goal

abbrev pub invariant-loop-year : goal.invariant-loop-year
invariant-loop-year l = AheadHeld renovate l.fn.lent.sheet l.year l.ahead
