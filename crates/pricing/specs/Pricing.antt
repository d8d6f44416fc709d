-- What pricing answers: document 01, 'Pricing and costing'. Definitions only.
use Rattle.std.specs.Prelude.{ℕ, ◌≡◌, List, cond}
use Rattle.base.specs.Answer.{accepted, refused, ◌or_else◌}
use Rattle.base.specs.declared.Answer.{Answer}
use Rattle.sheet.specs.Sheet.{PlanningSheet, sheet_of}
use Rattle.checking.specs.Refusals.{checked}
use Rattle.checking.specs.Passes.{Passes}
use Rattle.chain.specs.Chain.{Chain, Feasible, rounded_total}
use Rattle.chain.specs.PlanBytes.{encode, decode}
use Rattle.pricing.specs.Fitting.{fitting}

-- 14 where the bytes are no plan of a feasible chain, else the chain's rounded total; the total field is not looked at
unfoldable pub pricing : PlanningSheet → List ℕ → Answer
pricing p plan = cond (fitting p plan) (accepted (rounded_total p (decode plan))) (refused 14 3)

-- refusals 1 to 9, then 14
unfoldable pub priced : (sheet plan : List ℕ) → Answer
priced s plan = checked s or_else pricing (sheet_of s) plan

-- When a plan is priced at a total: the sheet passes its checks, and the plan is the encoding, with any total field, of a feasible chain of
-- that rounded total.
pub record PricedAt (s plan : List ℕ) (total : ℕ) : Type 0 where
  pub passes : Passes s
  pub chain : Chain
  pub feasible : Feasible (sheet_of s) chain
  pub field : ℕ
  pub encoded : plan ≡ encode field chain
  pub sum : total ≡ rounded_total (sheet_of s) chain
