-- What the yearbook answers, a list of what the definitions give beside what it should be: a factor, and the limits of refusals 4 and 13 in their
-- order. `CaseLaws.antt` evaluates them. Definitions only.
use Rattle.std.specs.Prelude.{ℕ, List, [], ◌∷◌}
use Rattle.base.specs.Answer.{accepted, refused}
use Rattle.base.specs.Cases.{Case}
use Rattle.base.specs.declared.Answer.{Answer}
use Rattle.yearbook.specs.Yearbook.{factor_answer}

abbrev pub factor_case : (rate year : ℕ) → Answer → Case
factor_case rate year answer = record { Figure = Answer; given = factor_answer rate year; expected = answer }

abbrev pub cases_of_factors : List Case
cases_of_factors =
    factor_case 40_000 1 (accepted 961_538_461_539)
    ∷ factor_case 60_000 1 (accepted 943_396_226_416)
    -- the limits, and 4 before 13
    ∷ factor_case 200_000 1 (accepted 833_333_333_334)
    ∷ factor_case 200_001 1 (refused 4 3)
    ∷ factor_case 40_000 300 (accepted 7_762_452)
    ∷ factor_case 40_000 301 (refused 13 3)
    ∷ factor_case 200_000 301 (refused 13 3)
    ∷ factor_case 200_001 301 (refused 4 3)
    ∷ []
