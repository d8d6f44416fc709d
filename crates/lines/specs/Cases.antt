-- Lines worked out by hand from document 01. The bytes are written out: 32 is a blank, 10 the end of a line, 48 to 57 the digits.
-- Definitions only.
use Rattle.std.specs.Prelude.{ℕ, List, [], ◌∷◌, ◌++◌}
use Rattle.base.specs.Cases.{Case}
use Rattle.lines.specs.Lines.{decimal, plan_lines}

abbrev pub text_case : (given expected : List ℕ) → Case
text_case given expected = record { Figure = List ℕ; given = given; expected = expected }

-- `total 240000`
abbrev pub total240000 : List ℕ
total240000 = 116 ∷ 111 ∷ 116 ∷ 97 ∷ 108 ∷ 32 ∷ 50 ∷ 52 ∷ 48 ∷ 48 ∷ 48 ∷ 48 ∷ 10 ∷ []

-- `maintain 0 13`
abbrev pub maintain0to13 : List ℕ
maintain0to13 = 109 ∷ 97 ∷ 105 ∷ 110 ∷ 116 ∷ 97 ∷ 105 ∷ 110 ∷ 32 ∷ 48 ∷ 32 ∷ 49 ∷ 51 ∷ 10 ∷ []

-- `renovate 13 100`
abbrev pub renovate13to100 : List ℕ
renovate13to100 = 114 ∷ 101 ∷ 110 ∷ 111 ∷ 118 ∷ 97 ∷ 116 ∷ 101 ∷ 32 ∷ 49 ∷ 51 ∷ 32 ∷ 49 ∷ 48 ∷ 48 ∷ 10 ∷ []

-- 2^64 − 1
abbrev pub largest : List ℕ
largest = 49 ∷ 56 ∷ 52 ∷ 52 ∷ 54 ∷ 55 ∷ 52 ∷ 52 ∷ 48 ∷ 55 ∷ 51 ∷ 55 ∷ 48 ∷ 57 ∷ 53 ∷ 53 ∷ 49 ∷ 54 ∷ 49 ∷ 53 ∷ []

abbrev pub cases_of_lines : List Case
cases_of_lines =
    text_case (decimal 0) (48 ∷ [])
    ∷ text_case (decimal 9) (57 ∷ [])
    ∷ text_case (decimal 10) (49 ∷ 48 ∷ [])
    ∷ text_case (decimal 18_446_744_073_709_551_615) largest
    ∷ text_case (plan_lines 240_000 (record { i = 13; j = 100; ends = [] })) (total240000 ++ maintain0to13 ++ renovate13to100)
    ∷ []
