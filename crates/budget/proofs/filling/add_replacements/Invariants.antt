-- The replacements, one by one: what the words hold and what remains are what they held and all; no word is above what the years before the next
-- replacement can have cost. Assumes nothing.
use Prim.Native.Nat.{ℕ, ◌+◌, ◌*◌, ◌≤◌}
use mathlib.Core.Path.{◌≡◌}
use lib.ListN.{length, get_or}
use Rattle.sheet.specs.Sheet.{PlanningSheet}
use Rattle.sheet.specs.Parsed.{parsed}
use Rattle.costing.specs.Fit.{yearly}
use Rattle.chain.specs.Ordered.{Climbs}
use Rattle.spreading.specs.Asks.{Room}
use Rattle.chain.proofs.PlanBytesLaws.{ends_left}
use Rattle.budget.proofs.FillLaws.{falls}
use Rattle.budget.proofs.filling.add_replacements.Given as goal

abbrev pub invariant-loop-k : goal.invariant-loop-k
invariant-loop-k g l = record {
  in_range : l.k ≤ l.count;
  climbs : Climbs l.sheet.horizon l.year (ends_left l.plan l.count l.k);
  same_length : length l.words ≡ length l.initial.words;
  room : Room (g.L.Ledger.counts l.ledger) l.words l.sheet.horizon (l.year * yearly);
  rest : (p : PlanningSheet) → l.sheet ≡ parsed p → (y : ℕ)
      → get_or l.words y 0 + falls (g.L.Ledger.figure l.ledger) p y l.plan l.count l.k l.year
      ≡ get_or l.initial.words y 0 + falls (g.L.Ledger.figure l.ledger) p y l.plan l.count 0 l.start;
}
