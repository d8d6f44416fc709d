-- What is printed of sheets, worked out by hand from document 01, its case 12 whole. The bytes are written out. Definitions only.
use Rattle.std.specs.Prelude.{ℕ, List, [], ◌∷◌, ◌++◌}
use Rattle.base.specs.Cases.{Case}
use Rattle.costing.specs.CaseSheets.{sheet9, sheet12}
use Rattle.lines.specs.Cases.{text_case, total240000}
use Rattle.printing.specs.Showing.{shown}

-- `maintain 0 0`
abbrev pub maintain0to0 : List ℕ
maintain0to0 = 109 ∷ 97 ∷ 105 ∷ 110 ∷ 116 ∷ 97 ∷ 105 ∷ 110 ∷ 32 ∷ 48 ∷ 32 ∷ 48 ∷ 10 ∷ []

-- `renovate 0 0`
abbrev pub renovate0to0 : List ℕ
renovate0to0 = 114 ∷ 101 ∷ 110 ∷ 111 ∷ 118 ∷ 97 ∷ 116 ∷ 101 ∷ 32 ∷ 48 ∷ 32 ∷ 48 ∷ 10 ∷ []

-- `replace 0 2`
abbrev pub replace0to2 : List ℕ
replace0to2 = 114 ∷ 101 ∷ 112 ∷ 108 ∷ 97 ∷ 99 ∷ 101 ∷ 32 ∷ 48 ∷ 32 ∷ 50 ∷ 10 ∷ []

-- `replace 2 4`
abbrev pub replace2to4 : List ℕ
replace2to4 = 114 ∷ 101 ∷ 112 ∷ 108 ∷ 97 ∷ 99 ∷ 101 ∷ 32 ∷ 50 ∷ 32 ∷ 52 ∷ 10 ∷ []

-- `refused 11 3`
abbrev pub refused11 : List ℕ
refused11 = 114 ∷ 101 ∷ 102 ∷ 117 ∷ 115 ∷ 101 ∷ 100 ∷ 32 ∷ 49 ∷ 49 ∷ 32 ∷ 51 ∷ 10 ∷ []

-- `refused 1 3`
abbrev pub refused1 : List ℕ
refused1 = 114 ∷ 101 ∷ 102 ∷ 117 ∷ 115 ∷ 101 ∷ 100 ∷ 32 ∷ 49 ∷ 32 ∷ 51 ∷ 10 ∷ []

abbrev pub cases_of_printing : List Case
cases_of_printing =
    text_case (shown sheet12) (total240000 ++ maintain0to0 ++ renovate0to0 ++ replace0to2 ++ replace2to4)
    ∷ text_case (shown sheet9) refused11
    ∷ text_case (shown []) refused1
    ∷ []
