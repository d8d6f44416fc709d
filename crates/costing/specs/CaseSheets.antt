-- The bytes of the sheets of document 01's cases 6 to 12, of sheets whose motors age, of sheets whose fields all differ, of sheets with removals, and
-- of sheets with nothing to pay. Definitions only.
use Rattle.std.specs.Prelude.{ℕ, ◌-◌, ◌*◌, List, [], ◌∷◌, ◌++◌, replicate}
use Rattle.std.proofs.lemmas.List.Edits.{sets}
use Rattle.sheet.specs.CaseBytes.{bytes16, minus, header_bytes, long_header_bytes, record_bytes, removal_bytes}
use Rattle.checking.specs.CaseSheets.{record_at}

-- no overhaul, and one
abbrev pub no_overhaul : List (ℕ × ℕ)
no_overhaul = []

abbrev pub one_overhaul : (age amount : ℕ) → List (ℕ × ℕ)
one_overhaul age amount = (age, amount) ∷ []

-- the bytes of a sheet that offers replace alone, with all f and g 0 and no electricity
abbrev pub replace_sheet : (horizon rate shortest longest investment maintenance : ℕ) (overhauls : List (ℕ × ℕ)) → List ℕ
replace_sheet horizon rate shortest longest investment maintenance overhauls =
    header_bytes horizon rate
    ++ replicate 178 0
    ++ record_bytes shortest longest (investment ∷ 0 ∷ maintenance ∷ 0 ∷ 0 ∷ 0 ∷ 0 ∷ 0 ∷ 0 ∷ []) overhauls

-- cases 6 to 8: replace, T = 3, lives 1 to 2, r 40,000, investment 1, maintenance 1; and with an overhaul of 1 at age 1
abbrev pub arc_sheet : List (ℕ × ℕ) → List ℕ
arc_sheet overhauls = replace_sheet 3 40_000 1 2 1 1 overhauls

-- only replace offered, r 0, lives 3 to 4, nothing to pay: case 9 has T = 5, case 10 T = 7
abbrev pub sheet9 : List ℕ
sheet9 = replace_sheet 5 0 3 4 0 0 no_overhaul

abbrev pub sheet10 : List ℕ
sheet10 = replace_sheet 7 0 3 4 0 0 no_overhaul

-- only replace offered, r 0: case 11 has lives 1 to 2, maintenance 1 and T = 3; case 12 lives 1 to 3, investment 10, maintenance 1, an
-- overhaul of 15 at age 2 and T = 4
abbrev pub sheet11 : List ℕ
sheet11 = replace_sheet 3 0 1 2 0 1 no_overhaul

abbrev pub sheet12 : List ℕ
sheet12 = replace_sheet 4 0 1 3 10 1 (one_overhaul 2 15)

-- only one option offered, T = 3, lives 1 to 2, r 40,000: electricity of 1 with g 20,000, and maintenance with g 20,000 too
abbrev pub motor_sheet : (option maintenance : ℕ) → List ℕ
motor_sheet option maintenance =
    header_bytes 3 40_000
    ++ replicate (89 * option) 0
    ++ record_bytes 1 2 (0 ∷ 0 ∷ maintenance ∷ 0 ∷ 20_000 ∷ 1 ∷ 0 ∷ 20_000 ∷ 0 ∷ []) no_overhaul
    ++ replicate (89 * (2 - option)) 0

-- T = 2, r 40,000, all lives 1: maintaining costs nothing, renovating has electricity of 1 with g 20,000, replacing with g 30,000
abbrev pub old_motors_sheet : List ℕ
old_motors_sheet =
    header_bytes 2 40_000
    ++ record_bytes 1 1 (replicate 9 0) no_overhaul
    ++ record_bytes 1 1 (0 ∷ 0 ∷ 0 ∷ 0 ∷ 0 ∷ 1 ∷ 0 ∷ 20_000 ∷ 0 ∷ []) no_overhaul
    ++ record_bytes 1 1 (0 ∷ 0 ∷ 0 ∷ 0 ∷ 0 ∷ 1 ∷ 0 ∷ 30_000 ∷ 0 ∷ []) no_overhaul

-- the records of a sheet that offers all options, each with two overhauls: no field is 0, no two fields of a record are equal, and no two rates, amounts
-- or lives of the sheet
abbrev pub distinct_maintain : List ℕ
distinct_maintain =
    record_bytes 4 8 (1_101 ∷ 11_000 ∷ 1_203 ∷ 12_000 ∷ 13_000 ∷ 1_307 ∷ 14_000 ∷ 15_000 ∷ 16_000 ∷ []) ((1, 1_409) ∷ (3, 1_511) ∷ [])

abbrev pub distinct_renovate : List ℕ
distinct_renovate =
    record_bytes 5 7
    (2_101 ∷ minus 21_000 ∷ 2_203 ∷ minus 22_000 ∷ 23_000 ∷ 2_307 ∷ minus 24_000 ∷ 25_000 ∷ minus 26_000 ∷ [])
    ((3, 2_409) ∷ (4, 2_511) ∷ [])

abbrev pub distinct_replace : List ℕ
distinct_replace =
    record_bytes 3 6 (3_101 ∷ 31_000 ∷ 3_203 ∷ minus 32_000 ∷ 33_000 ∷ 3_307 ∷ 4_000 ∷ 35_000 ∷ 36_000 ∷ []) ((1, 3_409) ∷ (4, 3_511) ∷ [])

-- that sheet with T = 9 and r 50,000, and the longer one, whose removals and their rates differ from all of these too
abbrev pub distinct_sheet : List ℕ
distinct_sheet = header_bytes 9 50_000 ++ distinct_maintain ++ distinct_renovate ++ distinct_replace

abbrev pub long_distinct : List ℕ
long_distinct =
    long_header_bytes 9 50_000
    ++ distinct_maintain
    ++ removal_bytes 1_603 17_000
    ++ distinct_renovate
    ++ removal_bytes 2_603 (minus 27_000)
    ++ distinct_replace
    ++ removal_bytes 3_603 37_000

-- the same, option k not offered
abbrev pub without : (k : ℕ) → List ℕ
without k = sets distinct_sheet (record_at k) (bytes16 0 ++ bytes16 0)

-- the longer sheet of replace alone, r 0, with all f and g 0 and no electricity, and with a removal
abbrev pub long_replace_sheet : (horizon shortest longest investment maintenance : ℕ) (overhauls : List (ℕ × ℕ)) (removal : ℕ) → List ℕ
long_replace_sheet horizon shortest longest investment maintenance overhauls removal =
    long_header_bytes horizon 0
    ++ replicate 194 0
    ++ record_bytes shortest longest (investment ∷ 0 ∷ maintenance ∷ 0 ∷ 0 ∷ 0 ∷ 0 ∷ 0 ∷ 0 ∷ []) overhauls
    ++ removal_bytes removal 0

-- case 12's sheet as version 2, with removal 3
abbrev pub long_sheet12 : List ℕ
long_sheet12 = long_replace_sheet 4 1 3 10 1 (one_overhaul 2 15) 3

-- version 2, T = 4, r 40,000, all lives 1 to 2, nothing to pay but removals: 5 of maintain, 1 with f 10,000 of renovate, 2 with f −10,000 of replace
abbrev pub removal_sheet : List ℕ
removal_sheet =
    let free : List ℕ = record_bytes 1 2 (replicate 9 0) no_overhaul in
    long_header_bytes 4 40_000 ++ free ++ removal_bytes 5 0 ++ free ++ removal_bytes 1 10_000 ++ free ++ removal_bytes 2 (minus 10_000)

-- the bytes of a sheet with T = 3, r 0 and nothing to pay, by the lives of maintain, renovate and replace
abbrev pub free_sheet : (shortest0 longest0 shortest1 longest1 shortest2 longest2 : ℕ) → List ℕ
free_sheet shortest0 longest0 shortest1 longest1 shortest2 longest2 =
    header_bytes 3 0
    ++ bytes16 shortest0
    ++ bytes16 longest0
    ++ replicate 85 0
    ++ bytes16 shortest1
    ++ bytes16 longest1
    ++ replicate 85 0
    ++ bytes16 shortest2
    ++ bytes16 longest2
    ++ replicate 85 0
