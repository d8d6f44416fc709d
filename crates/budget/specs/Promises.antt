-- What is owed of every call of the budget, for every sheet, plan, rate and all lists, whatever they held: document 02, request 2.
-- `PromisedBudget` has it all, and is an `ensures` of the call and of its C form. In them:
--     s, plan, general, units, cents      what the call was given, and what the lists held before it
--     a      what was answered
--     units', cents'      what the lists hold after the call
-- Definitions only.
use Rattle.std.specs.Prelude.{ℕ, ◌+◌, ◌≤◌, ◌<◌, ◌≡◌, List, ◌↔◌, ◌⊎◌, length, get_or, take}
use Rattle.base.specs.Lists.{sum_of}
use Rattle.base.specs.declared.Answer.{Answer}
use Rattle.sheet.specs.Sheet.{sheet_of}
use Rattle.checking.specs.Passes.{Passes}
use Rattle.pricing.specs.Pricing.{priced, PricedAt}
use Rattle.budget.specs.Budget.{last_in_cents}

-- pricing accepts the plan
abbrev pub Priced : (s plan : List ℕ) → Type 0
Priced s plan = (total : ℕ) × PricedAt s plan total

-- the number of words that each list must have
abbrev pub units_needed : (s : List ℕ) → ℕ
units_needed s = (sheet_of s).horizon + 1

abbrev pub cents_needed : (s : List ℕ) → ℕ
cents_needed s = last_in_cents (sheet_of s).horizon + 1

-- What pricing refuses is answered as pricing answers it: the sheet's own refusals, then the plan's. A sheet that passes gets option 3. With
-- every refusal the total is 0.
pub record PricedFirst (s plan : List ℕ) (a : Answer) : Type 0 where
  pub faulty : (Priced s plan → ⊥) → a ≡ priced s plan
  pub option : Passes s → a.option ≡ 3
  pub total : (a.number ≡ 0 → ⊥) → a.total ≡ 0

-- 15 exactly where pricing accepts and general inflation is above 50,000
abbrev pub RefusedFifteen : (s plan : List ℕ) (general number : ℕ) → Type 0
RefusedFifteen s plan general number = (number ≡ 15) ↔ (Priced s plan × (50_000 < general))

-- 16 exactly where pricing accepts, general inflation is in range and either list is too short
abbrev pub RefusedSixteen : (s plan : List ℕ) (general : ℕ) (units cents : List ℕ) (number : ℕ) → Type 0
RefusedSixteen s plan general units cents number =
    (number ≡ 16)
    ↔ (Priced s plan × (general ≤ 50_000) × ((length units < units_needed s) ⊎ (length cents < cents_needed s)))

-- accepted with a total exactly where the plan is priced at it, general inflation is in range and both lists are long enough
abbrev pub AcceptedAt : (s plan : List ℕ) (general : ℕ) (units cents : List ℕ) (a : Answer) → Type 0
AcceptedAt s plan general units cents a =
    (total : ℕ)
    → ((a.number ≡ 0) × (a.total ≡ total))
    ↔ (PricedAt s plan total × (general ≤ 50_000) × (units_needed s ≤ length units) × (cents_needed s ≤ length cents))

-- the words of the years 0 to T add up to the total answered, which is the priced total
pub record AddsUp (s plan : List ℕ) (a : Answer) (units' : List ℕ) : Type 0 where
  pub sum : a.number ≡ 0 → sum_of (λ (word : ℕ). word) (take (units_needed s) units') ≡ a.total
  pub total : a.number ≡ 0 → a ≡ priced s plan

-- a refused call leaves both lists; an accepted one leaves the words behind year T, and behind year 15 or T if sooner
pub record LeavesBehind (s : List ℕ) (number : ℕ) (units cents units' cents' : List ℕ) : Type 0 where
  pub left : (number ≡ 0 → ⊥) → (units' ≡ units) × (cents' ≡ cents)
  pub units_behind : (y : ℕ) → units_needed s ≤ y → get_or units' y 0 ≡ get_or units y 0
  pub cents_behind : (y : ℕ) → cents_needed s ≤ y → get_or cents' y 0 ≡ get_or cents y 0
  pub lengths : (length units' ≡ length units) × (length cents' ≡ length cents)

-- all of them, of what a call answered and left
pub record PromisedBudget (s plan : List ℕ) (general : ℕ) (units cents : List ℕ) (a : Answer) (units' cents' : List ℕ) : Type 0 where
  pub first : PricedFirst s plan a
  pub fifteen : RefusedFifteen s plan general a.number
  pub sixteen : RefusedSixteen s plan general units cents a.number
  pub accepted : AcceptedAt s plan general units cents a
  pub adds : AddsUp s plan a units'
  pub left : LeavesBehind s a.number units cents units' cents'
