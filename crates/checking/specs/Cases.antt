-- Refusals 1 to 9 at their limits (`cases_of_checking`), and sheets with two faults, which tell the order of the check (`cases_of_order`):
-- document 01, 'Refusal table'. Then the longer sheet (`cases_of_long`): document 02, request 6. `CaseLaws.antt` evaluates them. Definitions only.
use Rattle.std.specs.Prelude.{ℕ, ◌+◌, List, [], ◌∷◌, ◌++◌, map, take}
use Rattle.std.proofs.lemmas.List.Edits.{sets}
use Rattle.base.specs.Answer.{accepted, refused}
use Rattle.base.specs.Cases.{Case}
use Rattle.base.specs.declared.Answer.{Answer}
use Rattle.sheet.specs.CaseBytes.{bytes16, bytes32, minus}
use Rattle.checking.specs.Refusals.{checked}
use Rattle.checking.specs.CaseSheets.{version_at, horizon_at, rate_at, record_at, investment_inflation_at, maintenance_ageing_at, electricity_at, electricity_ageing_at, overhaul_inflation_at, overhaul_count_at, age_at, amount_at, amounts_at, inflations_at, ageings_at, limits, put8, put16, put32, put_lives, put_each, put_both, aged, long_limits, long_record_at, removal_place, removal_inflation_place, long_with, long_both}

-- each of some sheets has the same answer
abbrev pub each : Answer → List (List ℕ) → Case
each answer sheets = record { Figure = List Answer; given = map checked sheets; expected = map (λ sheet. answer) sheets }

-- The fields of `limits` are at their limits: it passes, and a step past one of them is refused. Sheets by number and option.
abbrev pub cases_of_checking : List Case
cases_of_checking =
    -- T 300 and 1; r 200,000; options that are not offered; ageings of 300,000
    each (accepted 0) (limits ∷ put16 horizon_at 1 ∷ put32 rate_at 200_000 ∷ put_lives 0 0 0 ∷ put_lives 1 0 0 ∷ [])
    ∷ each (accepted 0) (aged (maintenance_ageing_at 1) 300_000 ∷ aged (electricity_ageing_at 1) 300_000 ∷ [])
    -- no bytes, 277 and 279
    ∷ each (refused 1 3) ([] ∷ take 277 limits ∷ (limits ++ 0 ∷ []) ∷ [])
    -- each byte of the mark; versions 0, 2 and 257
    ∷ each (refused 2 3) (put8 0 80 ∷ put8 1 80 ∷ put8 2 80 ∷ put16 version_at 0 ∷ put16 version_at 2 ∷ put16 version_at 257 ∷ [])
    ∷ each (refused 3 3) (put16 horizon_at 0 ∷ put16 horizon_at 301 ∷ [])
    ∷ each (refused 4 3) (put32 rate_at 200_001 ∷ [])
    ∷ each (refused 5 0) (put_lives 0 0 1 ∷ put_lives 0 1 0 ∷ put_lives 0 2 1 ∷ put_lives 0 1 121 ∷ [])
    ∷ each (refused 5 1) (put_lives 1 1 0 ∷ put_lives 1 2 1 ∷ [])
    ∷ each (refused 5 2) (put_lives 2 0 1 ∷ put_lives 2 1 121 ∷ [])
    -- replace is not offered, but its record is checked all the same, here and below
    ∷ each (refused 6 0) (put_each (amounts_at 0) 1_000_000_001)
    ∷ each (refused 6 1) (put_each (amounts_at 1) 1_000_000_001)
    ∷ each (refused 6 2) (put_each (amounts_at 2) 1_000_000_001)
    -- an inflation above r, which is 40,000, and below −100,000
    ∷ each (refused 7 0) (put_each (inflations_at 0) 40_001)
    ∷ each (refused 7 1) (put_each (inflations_at 1) (minus 100_001))
    ∷ each (refused 7 2) (put_each (inflations_at 2) 40_001)
    -- the product, with f 40,000, −100,000 and 0; and ageings of 300,001
    ∷ each (refused 8 0) (put_each (ageings_at 0) 1)
    ∷ each (refused 8 1) (put_each (ageings_at 1) 155_556)
    ∷ each (refused 8 1) (aged (maintenance_ageing_at 1) 300_001 ∷ aged (electricity_ageing_at 1) 300_001 ∷ [])
    ∷ each (refused 8 2) (put_each (ageings_at 2) 40_001)
    -- eight overhauls are used: the count, ages of 0, of the one before and of 120, and the first and last amount
    ∷ each (refused 9 0) (put8 (overhaul_count_at 0) 9 ∷ put16 (age_at 0 0) 0 ∷ put16 (age_at 0 1) 1 ∷ put16 (age_at 0 7) 120 ∷ [])
    ∷ each (refused 9 0) (put32 (amount_at 0 0) 1_000_000_001 ∷ put32 (amount_at 0 7) 1_000_000_001 ∷ [])
    -- none is used: the first and the last entry
    ∷ each (refused 9 1) (put16 (age_at 1 0) 1 ∷ put32 (amount_at 1 0) 1 ∷ put16 (age_at 1 7) 1 ∷ put32 (amount_at 1 7) 1 ∷ [])
    -- two are used: counts of 1 and 3, the age before and a lower one, and the last byte of the sheet
    ∷ each (refused 9 2) (put8 (overhaul_count_at 2) 1 ∷ put8 (overhaul_count_at 2) 3 ∷ [])
    ∷ each (refused 9 2) (put16 (age_at 2 1) 118 ∷ put16 (age_at 2 1) 117 ∷ put8 277 1 ∷ [])
    ∷ []

-- Of two faults the first is answered. Two faulty overhauls of an option cannot be told apart: either gives 9 and that option.
abbrev pub cases_of_order : List Case
cases_of_order =
    -- 1 before 2, 2 before 3, 3 before 4, 4 before 5
    each (refused 1 3) ((put8 0 80 ++ 0 ∷ []) ∷ [])
    ∷ each (refused 2 3) (sets limits version_at (bytes16 2 ++ bytes16 301) ∷ [])
    ∷ each (refused 3 3) (sets limits horizon_at (bytes16 301 ++ bytes32 200_001) ∷ [])
    ∷ each (refused 4 3) (sets limits rate_at (bytes32 200_001 ++ bytes16 0 ++ bytes16 1) ∷ [])
    -- inside an option 5 before 6, 6 before 7 and 9, 7 before 8, 8 before 9: the last field of a rule, and the first of a later one
    ∷ each (refused 5 0) (sets limits (record_at 0) (bytes16 1 ++ bytes16 121 ++ bytes32 1_000_000_001) ∷ [])
    ∷ each (refused 6 1) (put_both (electricity_at 1) 1_000_000_001 (investment_inflation_at 1) 40_001 ∷ [])
    ∷ each (refused 6 1) (put_both (electricity_at 1) 1_000_000_001 (amount_at 1 0) 1 ∷ [])
    ∷ each (refused 7 2) (put_both (overhaul_inflation_at 2) 40_001 (maintenance_ageing_at 2) 40_001 ∷ [])
    ∷ each (refused 8 0) (sets (put8 (overhaul_count_at 0) 9) (electricity_ageing_at 0) (bytes32 1) ∷ [])
    ∷ each (refused 8 0) (put_both (electricity_ageing_at 0) 1 (amount_at 0 0) 1_000_000_001 ∷ [])
    -- 9, at the last overhaul of an option, before 5 of the next option and 6 of the last
    ∷ each (refused 9 0) (sets limits (amount_at 0 7) (bytes32 1_000_000_001 ++ bytes16 0 ++ bytes16 1) ∷ [])
    ∷ each (refused 9 0) (put_both (amount_at 0 7) 1_000_000_001 (electricity_at 2) 1_000_000_001 ∷ [])
    ∷ each (refused 9 1) (sets limits (amount_at 1 7) (bytes32 1 ++ bytes16 0 ++ bytes16 1) ∷ [])
    -- the same fault in options 0 and 1, and 1 and 2; and in entries 2 and 5 of one
    ∷ each (refused 6 0) (put_both (electricity_at 0) 1_000_000_001 (electricity_at 1) 1_000_000_001 ∷ [])
    ∷ each (refused 6 1) (put_both (electricity_at 1) 1_000_000_001 (electricity_at 2) 1_000_000_001 ∷ [])
    ∷ each (refused 9 0) (put_both (amount_at 0 2) 1_000_000_001 (amount_at 0 5) 1_000_000_001 ∷ [])
    ∷ []

-- 302 bytes: the lengths beside it, the versions that do not go with the length, the removal fields past their limits at each option, and their
-- place in the order
abbrev pub cases_of_long : List Case
cases_of_long =
    each (accepted 0) (long_limits ∷ [])
    ∷ each (refused 1 3) (take 279 long_limits ∷ take 301 long_limits ∷ (long_limits ++ 0 ∷ []) ∷ [])
    -- 302 bytes with versions 0, 1 and 3; 278 bytes of the longer sheet, which have version 2
    ∷ each (refused 2 3) (long_with version_at (bytes16 0) ∷ long_with version_at (bytes16 1) ∷ long_with version_at (bytes16 3) ∷ take 278 long_limits ∷ [])
    ∷ each (refused 6 0) (long_with (removal_place 0) (bytes32 1_000_000_001) ∷ [])
    ∷ each (refused 6 1) (long_with (removal_place 1) (bytes32 1_000_000_001) ∷ [])
    ∷ each (refused 6 2) (long_with (removal_place 2) (bytes32 1_000_000_001) ∷ [])
    ∷ each (refused 7 0) (long_with (removal_inflation_place 0) (bytes32 40_001) ∷ [])
    ∷ each (refused 7 1) (long_with (removal_inflation_place 1) (bytes32 40_001) ∷ long_with (removal_inflation_place 1) (bytes32 (minus 100_001)) ∷ [])
    ∷ each (refused 7 2) (long_with (removal_inflation_place 2) (bytes32 40_001) ∷ [])
    -- 5 before 6, and 6 before 7, at the removal of one option; 6 at its removal before 7 at its investment; 7 at its removal before 9 at its last overhaul
    ∷ each (refused 5 0) (long_both (long_record_at 0) (bytes16 2 ++ bytes16 1) (removal_place 0) (bytes32 1_000_000_001) ∷ [])
    ∷ each (refused 6 1) (long_with (removal_place 1) (bytes32 1_000_000_001 ++ bytes32 40_001) ∷ [])
    ∷ each (refused 6 1) (long_both (removal_place 1) (bytes32 1_000_000_001) (long_record_at 1 + 8) (bytes32 40_001) ∷ [])
    ∷ each (refused 7 2) (long_both (removal_inflation_place 2) (bytes32 40_001) (long_record_at 2 + 85) (bytes32 1) ∷ [])
    -- the removal of an option before the lives of the next; each record at its own place
    ∷ each (refused 7 0) (long_with (removal_inflation_place 0) (bytes32 40_001 ++ bytes16 2 ++ bytes16 1) ∷ [])
    ∷ each (refused 5 1) (long_with (long_record_at 1) (bytes16 2 ++ bytes16 1) ∷ [])
    ∷ each (refused 5 2) (long_with (long_record_at 2) (bytes16 2 ++ bytes16 1) ∷ [])
    ∷ []
