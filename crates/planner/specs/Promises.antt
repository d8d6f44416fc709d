-- What is owed of every call of planning, for every sheet and all buffers, whatever they held: demand 3, and what demands 1 and 2 say of
-- planning. `Promised` has them all, and is an `ensures` of the call and of its C form. In them:
--     s, plan, words      the sheet, and what the plan buffer and the lent words held before the call
--     a, number, total      what was answered
--     plan', words'      what the buffers hold after the call
-- They speak of document 01's rules alone (`checked`, `Passes`, `Feasible`, `rounded_total`, `exact_value`) and of the order of choice, not of how
-- a chain is found. Definitions only.
use Rattle.std.specs.Prelude.{ℕ, ◌+◌, ◌*◌, ◌≤◌, ◌<◌, ◌≡◌, List, ◌↔◌, length, get_or, take}
use Rattle.base.specs.Answer.{accepted}
use Rattle.base.specs.declared.Answer.{Answer}
use Rattle.sheet.specs.Sheet.{PlanningSheet, sheet_of}
use Rattle.checking.specs.Refusals.{checked}
use Rattle.checking.specs.Passes.{Passes}
use Rattle.chain.specs.Chain.{Chain, Feasible, rounded_total, exact_value}
use Rattle.chain.specs.ChosenChain.{ChosenChain}
use Rattle.chain.specs.Counting.{arcs_offered}
use Rattle.chain.specs.Error.{denominator, most_above, TotalNear}
use Rattle.chain.specs.PlanBytes.{plan_size, plan_length, total_field, count_field, decode}
use Rattle.pricing.specs.Pricing.{priced}
use Rattle.tails.specs.Words.{words_needed}
use Rattle.tails.specs.Cheapest.{CheapestWords}

-- the sheet passes the checks, which is where `check` answers 0, and at least 301 words are lent
pub record Ready (s words : List ℕ) : Type 0 where
  pub passes : Passes s
  pub enough : words_needed ≤ length words

-- A sheet that does not pass is answered as `check` answers it: the first of refusals 1 to 9, with its option. A sheet that passes gets option
-- 3. With every refusal the total is 0.
pub record CheckedFirst (s : List ℕ) (a : Answer) : Type 0 where
  pub faulty : (Passes s → ⊥) → a ≡ checked s
  pub option : Passes s → a.option ≡ 3
  pub total : (a.number ≡ 0 → ⊥) → a.total ≡ 0

-- 10 exactly where a sheet that passes comes with fewer than 301 words
abbrev pub RefusedTen : (s words : List ℕ) (number : ℕ) → Type 0
RefusedTen s words number = (number ≡ 10) ↔ (Passes s × (length words < words_needed))

-- 11 exactly where no feasible chain exists
abbrev pub RefusedEleven : (s words : List ℕ) (number : ℕ) → Type 0
RefusedEleven s words number = (number ≡ 11) ↔ (Ready s words × ((c : Chain) → Feasible (sheet_of s) c → ⊥))

-- 12 exactly where there is a chosen chain and the plan buffer is too short for it
abbrev pub RefusedTwelve : (s plan words : List ℕ) (number : ℕ) → Type 0
RefusedTwelve s plan words number =
    (number ≡ 12) ↔ (Ready s words × ((c : Chain) × (ChosenChain (sheet_of s) c × (length plan < plan_length c))))

-- accepted exactly where there is a chosen chain and the plan buffer is long enough for it
abbrev pub AcceptedWhen : (s plan words : List ℕ) (number : ℕ) → Type 0
AcceptedWhen s plan words number =
    (number ≡ 0) ↔ (Ready s words × ((c : Chain) × (ChosenChain (sheet_of s) c × (plan_length c ≤ length plan))))

-- with long enough buffers, 301 words and 19 + 2T plan bytes, a sheet that passes is accepted as soon as some chain is feasible
abbrev pub AmpleAccepted : (s plan words : List ℕ) (number : ℕ) → Type 0
AmpleAccepted s plan words number =
    Ready s words → plan_size (sheet_of s).horizon ≤ length plan → (c : Chain) → Feasible (sheet_of s) c → number ≡ 0

-- The returned chain is the one that the written plan holds; the plan lies whole in its buffer. The chain is feasible; no feasible chain has a
-- smaller rounded total; of equal totals it has the largest i, then the largest j, then the later end at the first replacement where they
-- differ; it is the only such chain. The printed total is its rounded total: the plan's total field and the total answered are one number.
pub record Returned (p : PlanningSheet) (total : ℕ) (plan' : List ℕ) : Type 0 where
  pub whole : plan_size (count_field plan') ≤ length plan'
  pub chosen : ChosenChain p (decode plan')
  pub least : (c : Chain) → Feasible p c → total ≤ rounded_total p c
  pub only : (c : Chain) → ChosenChain p c → c ≡ decode plan'
  pub sum : total ≡ rounded_total p (decode plan')
  pub field : total_field plan' ≡ total

abbrev pub ReturnsChosen : (s : List ℕ) (number total : ℕ) (plan' : List ℕ) → Type 0
ReturnsChosen s number total plan' = number ≡ 0 → Returned (sheet_of s) total plan'

-- on 0, 11 and 12, which are the answers to these sheets and words, the words hold the cheapest replacements from every year
abbrev pub LendsCheapest : (s words words' : List ℕ) → Type 0
LendsCheapest s words words' = Ready s words → CheapestWords (sheet_of s) words words'

-- the first 19 + 2m bytes of what is written are priced at the total that was answered
abbrev pub PricedAsPrinted : (s : List ℕ) (number total : ℕ) (plan' : List ℕ) → Type 0
PricedAsPrinted s number total plan' = number ≡ 0 → priced s (take (plan_size (count_field plan')) plan') ≡ accepted total

-- the printed total is never below the returned chain's exact value, and at most 3T² + T units above it
abbrev pub PrintedNear : (s : List ℕ) (number total : ℕ) (plan' : List ℕ) → Type 0
PrintedNear s number total plan' = number ≡ 0 → TotalNear (sheet_of s) (decode plan') total

-- no feasible chain's exact value is more than 3T² + T units below the returned one's: both sides times the common denominator
abbrev pub NoneFarBelow : (s : List ℕ) (number : ℕ) (plan' : List ℕ) → Type 0
NoneFarBelow s number plan' =
    let p = sheet_of s in
    number ≡ 0
    → (c : Chain) → Feasible p c
    → exact_value p (decode plan') ≤ exact_value p c + most_above p.horizon * denominator p

-- A refused call leaves the plan buffer untouched; the words are left unless the number is 0, 11 or 12. An accepted call leaves the bytes
-- behind the plan.
pub record Leaves (number : ℕ) (plan words plan' words' : List ℕ) : Type 0 where
  pub plan_left : (number ≡ 0 → ⊥) → plan' ≡ plan
  pub words_left : (number ≡ 0 → ⊥) → (number ≡ 11 → ⊥) → (number ≡ 12 → ⊥) → words' ≡ words
  pub behind : number ≡ 0 → (k : ℕ) → plan_size (count_field plan') ≤ k → get_or plan' k 0 ≡ get_or plan k 0
  pub lengths : (length plan' ≡ length plan) × (length words' ≡ length words)

-- all of them, of what a call answered and left
pub record Promised (s plan words : List ℕ) (a : Answer) (plan' words' : List ℕ) : Type 0 where
  pub first : CheckedFirst s a
  pub ten : RefusedTen s words a.number
  pub eleven : RefusedEleven s words a.number
  pub twelve : RefusedTwelve s plan words a.number
  pub accepted : AcceptedWhen s plan words a.number
  pub ample : AmpleAccepted s plan words a.number
  pub chosen : ReturnsChosen s a.number a.total plan'
  pub cheapest : LendsCheapest s words words'
  pub priced : PricedAsPrinted s a.number a.total plan'
  pub near : PrintedNear s a.number a.total plan'
  pub far : NoneFarBelow s a.number plan'
  pub left : Leaves a.number plan words plan' words'

-- For request 7 of document 02, which no call answers yet: what will be owed of a count `arcs` of the arcs weighed. It equals the number of arcs the
-- sheet offers, is 0 with every refusal, and is at most 120 × T + 14,762.
pub record PromisedCount (s : List ℕ) (number arcs : ℕ) : Type 0 where
  pub offered : number ≡ 0 → arcs ≡ arcs_offered (sheet_of s)
  pub refused : (number ≡ 0 → ⊥) → arcs ≡ 0
  pub few : arcs ≤ 120 * (sheet_of s).horizon + 14_762
