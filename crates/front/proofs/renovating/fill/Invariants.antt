-- Renovating from each year in which maintaining may end: the years before i are written, and no total is too large.
use Rattle.front.proofs.RenovationLaws.{Renovated}
use Rattle.front.proofs.renovating.fill.Given as goal

abbrev pub invariant-loop-i : goal.invariant-loop-i
invariant-loop-i l = Renovated l.fn.lent.sheet l.shortest l.i l.totals l.ends
