-- What a call's outcome answers: the number and the option that the refusal table has for each refusal. Definitions only.
use Rattle.std.specs.Prelude.{ℕ, ◌≡◌, ◌<◌, Result, Ok, Err, MatchResult}
use Rattle.base.specs.Answer.{accepted, refused}
use Rattle.base.specs.declared.Answer.{Answer}
use Rattle.base.specs.declared.Activity.{Activity}
use Rattle.base.specs.declared.Activity.TheVariants.{Maintain, Renovate, Replace}
use Rattle.base.specs.declared.Refusal.{Refusal}
use Rattle.base.specs.declared.Refusal.TheVariants.{Length, Mark, Horizon, Rate, Lives, Amount, Inflation, Ageing, Overhauls, Words, NoChain, PlanLength, NotOffered, NotAChain, GeneralInflation, ListLength}

-- the options of a sheet: 0 maintain, 1 renovate, 2 replace
abbrev pub place : Activity → ℕ
place Maintain = 0
place Renovate = 1
place Replace = 2

-- the number of each refusal
abbrev pub number_of : Refusal → ℕ
number_of Length = 1
number_of Mark = 2
number_of Horizon = 3
number_of Rate = 4
number_of (Lives activity) = 5
number_of (Amount activity) = 6
number_of (Inflation activity) = 7
number_of (Ageing activity) = 8
number_of (Overhauls activity) = 9
number_of Words = 10
number_of NoChain = 11
number_of PlanLength = 12
number_of NotOffered = 13
number_of NotAChain = 14
number_of GeneralInflation = 15
number_of ListLength = 16

-- with 5 to 9 comes the option; with other numbers, 3
abbrev pub option_of : Refusal → ℕ
option_of (Lives activity) = place activity
option_of (Amount activity) = place activity
option_of (Inflation activity) = place activity
option_of (Ageing activity) = place activity
option_of (Overhauls activity) = place activity
option_of other = 3

-- an outcome's answer: accepted with the total of what is answered, or refused
abbrev pub answer_by : {T : Type 0} → (T → ℕ) → Result T Refusal → Answer
answer_by total (Ok value) = accepted (total value)
answer_by total (Err refusal) = refused (number_of refusal) (option_of refusal)

-- a call that answers a total, and a check, whose total is 0
abbrev pub answer_of : Result ℕ Refusal → Answer
answer_of outcome = answer_by (λ total. total) outcome

abbrev pub check_answer : Result Unit Refusal → Answer
check_answer outcome = answer_by (λ done. 0) outcome

-- what names an option: its number, or the refusal of an arc
abbrev pub Names : ℕ → Result Activity Refusal → Type 0
Names option outcome = MatchResult outcome (λ activity. place activity ≡ option) (λ refusal. (refusal ≡ NotOffered) × (2 < option))
