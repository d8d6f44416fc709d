-- What a chain pays in each year, and what the budget answers and leaves: document 02, request 2. Definitions only.
use Rattle.std.specs.Prelude.{ℕ, suc, ◌+◌, min, List, [], ◌∷◌, ◌++◌, Bool, cond, ◌&&◌, leb, ltb, eqb, length}
use Rattle.std.proofs.lemmas.List.Edits.{sets}
use Rattle.base.specs.Lists.{listed}
use Rattle.base.specs.Answer.{answered, ◌unless◌else◌, ◌or_else◌}
use Rattle.base.specs.declared.Answer.{Answer}
use Rattle.sheet.specs.Sheet.{PlanningSheet, sheet_of}
use Rattle.steps.specs.Payment.{Payment, rounded}
use Rattle.costing.specs.Arc.{Arc, payments}
use Rattle.chain.specs.Chain.{Chain, arcs}
use Rattle.chain.specs.PlanBytes.{decode}
use Rattle.pricing.specs.Pricing.{priced}
use Rattle.nominal.specs.Nominal.{cents, last_nominal}
use Rattle.spreading.specs.Fallen.{fallen}

-- the payments of arcs, arc by arc
unfoldable pub payments_of : List Arc → List Payment
payments_of [] = []
payments_of (a ∷ l) = payments a ++ payments_of l

-- word y is the sum in units of the payments that fall in year y
unfoldable pub units_in : PlanningSheet → Chain → (y : ℕ) → ℕ
units_in p c y = fallen (rounded (1_000_000 + p.rate)) y (payments_of (arcs p c))

-- T + 1 words
unfoldable pub units_of : PlanningSheet → Chain → List ℕ
units_of p c = listed (suc p.horizon) (units_in p c)

-- the same payments in cents of that year
unfoldable pub cents_in : PlanningSheet → (general : ℕ) → Chain → (y : ℕ) → ℕ
cents_in p general c y = fallen (cents (1_000_000 + general)) y (payments_of (arcs p c))

-- years 0 to 15, or to T if sooner
abbrev pub last_in_cents : (horizon : ℕ) → ℕ
last_in_cents horizon = min last_nominal horizon

unfoldable pub cents_of : PlanningSheet → (general : ℕ) → Chain → List ℕ
cents_of p general c = listed (suc (last_in_cents p.horizon)) (cents_in p general c)

-- both lists are long enough, by their numbers of words
abbrev pub roomy : (horizon units cents : ℕ) → Bool
roomy horizon units cents = ltb horizon units && ltb (last_in_cents horizon) cents

-- 15: a general inflation above 50,000; 16: either list is too short
unfoldable pub budget_number : (horizon general units cents : ℕ) → ℕ
budget_number horizon general units cents = 15 unless leb general 50_000 else 16 unless roomy horizon units cents else 0

-- the sheet's and the plan's own refusals, then 15 and 16; accepted with the priced total
unfoldable pub budget_answer : (sheet plan : List ℕ) (general : ℕ) (units cents : List ℕ) → Answer
budget_answer s plan general units cents =
    priced s plan or_else
    answered (budget_number (sheet_of s).horizon general (length units) (length cents)) 3 or_else
    priced s plan

-- what the lists hold after the call: a refused call leaves both alone; words behind either list are untouched
unfoldable pub units_after : (sheet plan : List ℕ) (general : ℕ) (units cents : List ℕ) → List ℕ
units_after s plan general units cents =
    cond (eqb (budget_answer s plan general units cents).number 0) (sets units 0 (units_of (sheet_of s) (decode plan))) units

unfoldable pub cents_after : (sheet plan : List ℕ) (general : ℕ) (units cents : List ℕ) → List ℕ
cents_after s plan general units cents =
    cond (eqb (budget_answer s plan general units cents).number 0) (sets cents 0 (cents_of (sheet_of s) general (decode plan))) cents
