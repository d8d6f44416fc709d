-- What costing answers: document 01, 'Pricing and costing'. Definitions only.
use Rattle.std.specs.Prelude.{ℕ, List, cond}
use Rattle.base.specs.Answer.{accepted, refused, ◌or_else◌}
use Rattle.base.specs.declared.Answer.{Answer}
use Rattle.sheet.specs.Sheet.{PlanningSheet, sheet_of}
use Rattle.checking.specs.Refusals.{checked}
use Rattle.costing.specs.Arc.{arc_of, cost}
use Rattle.costing.specs.Offered.{offered}

-- 13 where the sheet does not offer the arc, else its cost
unfoldable pub costing : PlanningSheet → (option start end : ℕ) → Answer
costing p option start end = cond (offered p option start end) (accepted (cost (arc_of p option start end))) (refused 13 3)

-- refusals 1 to 9, then 13
unfoldable pub costed : List ℕ → (option start end : ℕ) → Answer
costed s option start end = checked s or_else costing (sheet_of s) option start end
