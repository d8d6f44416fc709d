-- Factors, a list of what the definition gives beside what it should be. `CaseLaws.antt` evaluates them. Definitions only.
use Rattle.std.specs.Prelude.{ℕ, List, [], ◌∷◌}
use Rattle.base.specs.Cases.{Case}
use Rattle.factors.specs.PresentWorth.{present_worth}

abbrev pub worth_case : (rate year factor : ℕ) → Case
worth_case rate year factor = record { Figure = ℕ; given = present_worth rate year; expected = factor }

abbrev pub cases_of_worth : List Case
cases_of_worth =
    -- 4 per cent, the figures of request 5; to the nearest, years 1 to 3 would end in 538, 017 and 670, and a power rounded up at the end would give
    -- 018 and 671 in years 2 and 3
    worth_case 40_000 0 1_000_000_000_000
    ∷ worth_case 40_000 1 961_538_461_539
    ∷ worth_case 40_000 2 924_556_213_019
    ∷ worth_case 40_000 3 888_996_358_673
    ∷ worth_case 40_000 300 7_762_452
    -- the other usual rates, and one beside them
    ∷ worth_case 20_000 1 980_392_156_863
    ∷ worth_case 30_000 1 970_873_786_408
    ∷ worth_case 50_000 1 952_380_952_381
    ∷ worth_case 39_999 1 961_539_386_096
    -- 10^12 in every year at rate 0
    ∷ worth_case 0 300 1_000_000_000_000
    ∷ []
