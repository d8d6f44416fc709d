-- Replacements lead to the horizon: the test of the ends that are left is the test of all. Assumes nothing.
use mathlib.Core.Path.{◌≡◌}
use Rattle.sheet.specs.Sheet.{PlanningSheet}
use Rattle.sheet.specs.Parsed.{parsed}
use Rattle.chain.specs.PlanBytes.{ends_at}
use Rattle.chain.proofs.PlanBytesLaws.{ends_left}
use Rattle.pricing.specs.Fitting.{reaches}
use Rattle.pricing.proofs.fitting.reaches.Given as goal

abbrev pub invariant-loop-k : goal.invariant-loop-k
invariant-loop-k l =
    (p : PlanningSheet) → l.sheet ≡ parsed p → reaches p l.year (ends_left l.plan l.count l.k) ≡ reaches p l.start (ends_at l.plan 19 l.count)
