-- Steps, a list of what the rules give beside what it should be: document 01's cases 1 to 5, worked out again as request 1 asks, further ones
-- that see each division by itself, and the first two cases through a payment. `CaseLaws.antt` evaluates them. Definitions only.
use Rattle.std.specs.Prelude.{ℕ, ◌+◌, List, [], ◌∷◌, ℤ, pos, neg_ℤ}
use Rattle.base.specs.Cases.{Case}
use Rattle.sheet.specs.Sheet.{factor}
use Rattle.steps.specs.Step.{plain, in_service}
use Rattle.steps.specs.Payment.{rounded, once}

-- a plain step with rate r and inflation f, and a step in service with ageing g
abbrev pub plain_case : (r : ℕ) (f : ℤ) (a result : ℕ) → Case
plain_case r f a result = record { Figure = ℕ; given = plain (factor f) (1_000_000 + r) a; expected = result }

abbrev pub service_case : (r : ℕ) (f : ℤ) (g a result : ℕ) → Case
service_case r f g a result =
    record { Figure = ℕ; given = in_service (factor f) (1_000_000 + g) (1_000_000 + r) a; expected = result }

abbrev pub cases_one_to_five : List Case
cases_one_to_five =
    plain_case 40_000 (pos 0) 10_000 9_616
    ∷ plain_case 40_000 (pos 0) 9_616 9_247
    ∷ plain_case 0 (neg_ℤ (pos 100_000)) 5 5
    ∷ service_case 40_000 (pos 0) 20_000 10_000 9_808
    ∷ service_case 40_000 (pos 10_000) 20_000 10_000 9_906
    ∷ []

-- each division by itself: a rest below a half counts as a unit, a quotient that is whole stays
abbrev pub cases_of_rounding : List Case
cases_of_rounding =
    -- 2.25
    plain_case 200_000 (neg_ℤ (pos 100_000)) 3 3
    -- 3
    ∷ plain_case 200_000 (neg_ℤ (pos 100_000)) 4 3
    -- 999,999 and 1 part in 1,000,001
    ∷ plain_case 1 (pos 0) 1_000_000 1_000_000
    -- the ageing gives 10,201.02, so 10,202, which the discount makes 9,809.6; from 10,201 it would be 9,808.7
    ∷ service_case 40_000 (pos 0) 20_000 10_001 9_810
    ∷ []

-- a payment of an amount once, in a year
abbrev pub payment_case : (r : ℕ) (f : ℤ) (amount year units : ℕ) → Case
payment_case r f amount year units = record { Figure = ℕ; given = rounded (1_000_000 + r) (once amount (factor f) year); expected = units }

-- cases 1 and 2 through a payment: each step is rounded (a factor raised to a power and rounded up at the end gives 9,246)
abbrev pub cases_of_payments : List Case
cases_of_payments = payment_case 40_000 (pos 0) 1 1 9_616 ∷ payment_case 40_000 (pos 0) 1 2 9_247 ∷ []
