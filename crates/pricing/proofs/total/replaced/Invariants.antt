-- What replacements cost: the sum so far and the cost of the ends that are left are the cost of all; a year adds at most `yearly`.
-- Assumes nothing.
use Prim.Native.Nat.{◌+◌, ◌*◌, ◌≤◌}
use mathlib.Core.Path.{◌≡◌}
use Rattle.sheet.specs.Sheet.{PlanningSheet}
use Rattle.sheet.specs.Parsed.{parsed}
use Rattle.costing.specs.Fit.{yearly}
use Rattle.chain.specs.Chain.{replacements, spent}
use Rattle.chain.specs.PlanBytes.{ends_at}
use Rattle.chain.specs.Ordered.{Climbs}
use Rattle.chain.proofs.PlanBytesLaws.{ends_left}
use Rattle.pricing.proofs.total.replaced.Given as goal

abbrev pub invariant-loop-k : goal.invariant-loop-k
invariant-loop-k l = record {
  climbs : Climbs l.sheet.horizon l.year (ends_left l.plan l.count l.k);
  room : l.sum + l.start * yearly ≤ l.year * yearly;
  units :
      (p : PlanningSheet) → l.sheet ≡ parsed p
      → l.sum + spent p (replacements l.year (ends_left l.plan l.count l.k)) ≡ spent p (replacements l.start (ends_at l.plan 19 l.count));
}
