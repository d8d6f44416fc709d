-- What a call answers: a number, an option and a total. Document 01, 'Refusal table', the paragraph below it. Definitions only.
use Rattle.std.specs.Prelude.{ℕ, ◌<◌, Bool, cond, eqb}
use Rattle.base.specs.declared.Answer.{Answer}

-- an accepted call of any kind answers 0 and 3
abbrev pub accepted : ℕ → Answer
accepted total = record { total = total; number = 0; option = 3 }

-- a total or cost that goes with a refusal is 0
abbrev pub refused : ℕ → ℕ → Answer
refused number option = record { total = 0; number = number; option = option }

-- the refusal with a number and its option; no refusal where the number is 0
abbrev pub answered : ℕ → ℕ → Answer
answered number option = cond (eqb number 0) (accepted 0) (refused number option)

-- a number where the rule does not hold, else what comes after
infixr 20 ◌unless◌else◌
unfoldable pub ◌unless◌else◌ : ℕ → Bool → ℕ → ℕ
number unless holds else next = cond holds next number

-- the first refusal of two answers, else the second answer
infixr 20 ◌or_else◌
abbrev pub ◌or_else◌ : Answer → Answer → Answer
first or_else second = cond (eqb first.number 0) second first

-- 2^56, the first total that leaves no room in 64 bits for a number and an option
abbrev pub total_bound : ℕ
total_bound = 72_057_594_037_927_936

-- what a C form's one u64 has room for: six bits of number, two of option, the other 56 of total
pub record Packs (a : Answer) : Type 0 where
  pub number : a.number < 64
  pub option : a.option < 4
  pub total : a.total < total_bound
