-- What the yearbook answers: document 02, request 5. Definitions only.
use Rattle.std.specs.Prelude.{ℕ, ◌+◌, ◌*◌, leb}
use Rattle.base.specs.Answer.{accepted, answered, ◌unless◌else◌, ◌or_else◌}
use Rattle.base.specs.declared.Answer.{Answer}
use Rattle.factors.specs.PresentWorth.{largest_rate, present_worth}

-- the last year that has factors
abbrev pub last_year : ℕ
last_year = 300

-- the usual public rates by their places: 2, 3, 4 and 5 per cent; their factors are held in a table
abbrev pub usual_rates : ℕ
usual_rates = 4

abbrev pub usual_rate : (place : ℕ) → ℕ
usual_rate place = 20_000 + 10_000 * place

-- a rate above 200,000 is refused with 4 and a year above 300 with 13, in that order
unfoldable pub factor_number : (rate year : ℕ) → ℕ
factor_number rate year = 4 unless leb rate largest_rate else 13 unless leb year last_year else 0

-- the factor as the total; with a refusal it is 0
unfoldable pub factor_answer : (rate year : ℕ) → Answer
factor_answer rate year = answered (factor_number rate year) 3 or_else accepted (present_worth rate year)
