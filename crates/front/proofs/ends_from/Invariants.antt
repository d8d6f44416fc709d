-- The ends one after the other: the year that is reached rises, and what is written and the ends from there are those from j.
use Prim.Native.Nat.{◌+◌, ◌-◌, ◌≤◌}
use mathlib.Core.Path.{◌≡◌}
use Rattle.sheet.specs.Sheet.{PlanningSheet}
use Rattle.sheet.specs.Parsed.{parsed}
use Rattle.front.proofs.FollowLaws.{Reached}
use Rattle.front.proofs.ends_from.Given as goal

abbrev pub invariant-loop-year : goal.invariant-loop-year
invariant-loop-year l = record {
  reached : (p : PlanningSheet) → l.sheet ≡ parsed p → Reached p l.j l.year l.count l.ends;
  inside : l.year ≤ l.sheet.horizon;
  apart : l.j + l.count ≤ l.year;
}

abbrev pub decreases-loop-year : goal.decreases-loop-year
decreases-loop-year l = l.sheet.horizon - l.year
