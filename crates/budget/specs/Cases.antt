-- Budgets of plans, lists of what the definitions give beside what it should be. The figures were worked out apart from these definitions; the bytes
-- are written out, not encoded. `CaseLaws.antt` evaluates them. Definitions only.
use Rattle.std.specs.Prelude.{ℕ, List, [], ◌∷◌, ◌++◌, replicate}
use Rattle.std.proofs.lemmas.List.Edits.{sets}
use Rattle.base.specs.Answer.{accepted, refused}
use Rattle.base.specs.Cases.{Case}
use Rattle.base.specs.declared.Answer.{Answer}
use Rattle.sheet.specs.CaseBytes.{bytes32, header_bytes, record_bytes}
use Rattle.checking.specs.CaseSheets.{rate_at}
use Rattle.costing.specs.CaseSheets.{no_overhaul, one_overhaul, replace_sheet, sheet12, distinct_sheet, long_sheet12, removal_sheet}
use Rattle.chain.specs.CasePlans.{plan_of, replacing}
use Rattle.budget.specs.Budget.{budget_answer, units_after, cents_after}

-- what a call answers, and what it leaves in lists of so many words that hold 7
abbrev pub answer_case : (sheet plan : List ℕ) (general units cents : ℕ) → Answer → Case
answer_case sheet plan general units cents answer =
    record { Figure = Answer; given = budget_answer sheet plan general (replicate units 7) (replicate cents 7); expected = answer }

abbrev pub units_case : (sheet plan : List ℕ) (general units cents : ℕ) → List ℕ → Case
units_case sheet plan general units cents words =
    record { Figure = List ℕ; given = units_after sheet plan general (replicate units 7) (replicate cents 7); expected = words }

abbrev pub cents_case : (sheet plan : List ℕ) (general units cents : ℕ) → List ℕ → Case
cents_case sheet plan general units cents words =
    record { Figure = List ℕ; given = cents_after sheet plan general (replicate units 7) (replicate cents 7); expected = words }

-- replace alone, T = 2, r 40,000, lives 1 to 1, investment 1 with f 10,000, maintenance 7 with f 10,000 and g 7,000; and its two replacements
abbrev pub ledger_sheet : List ℕ
ledger_sheet =
    header_bytes 2 40_000
    ++ replicate 178 0
    ++ record_bytes 1 1 (1 ∷ 10_000 ∷ 7 ∷ 10_000 ∷ 7_000 ∷ 0 ∷ 0 ∷ 0 ∷ 0 ∷ []) no_overhaul

abbrev pub ledger_plan : List ℕ
ledger_plan = replacing 0 (1 ∷ 2 ∷ [])

-- replace alone, T = 17, r 0, lives up to 20, investment 1, maintenance 1, an overhaul of 2 at age 15
abbrev pub long_sheet : List ℕ
long_sheet = replace_sheet 17 0 1 20 1 1 (one_overhaul 15 2)

-- the sheet whose fields all differ, T = 9: maintaining to 4 and renovating to 9; and renovating to 5 and a replacement
abbrev pub renovated_plan : List ℕ
renovated_plan = plan_of (replicate 8 0) 4 9 []

abbrev pub replaced_plan : List ℕ
replaced_plan = plan_of (replicate 8 255) 0 5 (9 ∷ [])

-- maintaining to 1, renovating to 2, replacements to 3 and 4, T of the sheet with removals alone
abbrev pub removal_plan : List ℕ
removal_plan = plan_of (replicate 8 0) 1 2 (3 ∷ 4 ∷ [])

abbrev pub cases_of_words : List Case
cases_of_words =
    -- in cents, word 2 tells the order of the rates and the three roundings of a year: general last gives 722, ageing last 724, one rounding 721
    answer_case ledger_sheet ledger_plan 1_000 4 4 (accepted 154_652)
    ∷ units_case ledger_sheet ledger_plan 1_000 4 4 (10_000 ∷ 78_169 ∷ 66_483 ∷ 7 ∷ [])
    ∷ cents_case ledger_sheet ledger_plan 1_000 4 4 (100 ∷ 817 ∷ 723 ∷ 7 ∷ [])
    -- an overhaul is paid in the year of its age; the next investment in the year in which the arc before it ends, with that arc's last flows
    ∷ units_case sheet12 (replacing 0 (3 ∷ 4 ∷ [])) 0 5 5 (100_000 ∷ 10_000 ∷ 160_000 ∷ 110_000 ∷ 10_000 ∷ [])
    ∷ cents_case sheet12 (replacing 0 (2 ∷ 4 ∷ [])) 50_000 5 5 (1_000 ∷ 105 ∷ 1_214 ∷ 117 ∷ 123 ∷ [])
    -- removal 3 is paid in year 2, in which the first replacement ends, and none at T: without it word 2 would be 110,000 and 1,214
    ∷ units_case long_sheet12 (replacing 0 (2 ∷ 4 ∷ [])) 50_000 5 5 (100_000 ∷ 10_000 ∷ 140_000 ∷ 10_000 ∷ 10_000 ∷ [])
    ∷ cents_case long_sheet12 (replacing 0 (2 ∷ 4 ∷ [])) 50_000 5 5 (1_000 ∷ 105 ∷ 1_545 ∷ 117 ∷ 123 ∷ [])
    -- a renovation that ends in year 2 and a replacement that ends in year 3 each pay their own, after as many plain steps; maintaining pays none
    ∷ units_case removal_sheet removal_plan 20_000 5 5 (0 ∷ 0 ∷ 9_432 ∷ 17_253 ∷ 0 ∷ [])
    ∷ cents_case removal_sheet removal_plan 20_000 5 5 (0 ∷ 0 ∷ 109 ∷ 208 ∷ 0 ∷ [])
    -- every field of a record goes into the words of its option; from year 5 on the electricity of the renovation has as many years in service as it is
    -- after year 0: with new motors word 5 would be 32,208,004 and 453,857
    ∷ units_case distinct_sheet renovated_plan 20_000 10 10
    (11_010_000 ∷ 38_190_326 ∷ 24_025_006 ∷ 37_194_228 ∷ 38_874_553 ∷ 33_911_438 ∷ 32_310_943 ∷ 45_023_181 ∷ 43_098_882 ∷ 27_948_590 ∷ [])
    ∷ cents_case distinct_sheet renovated_plan 20_000 10 10
    (110_100 ∷ 409_022 ∷ 275_583 ∷ 456_935 ∷ 511_491 ∷ 477_864 ∷ 487_641 ∷ 727_742 ∷ 746_100 ∷ 518_186 ∷ [])
    ∷ units_case distinct_sheet replaced_plan 50_000 10 10
    (21_010_000 ∷ 42_971_535 ∷ 40_943_523 ∷ 58_239_737 ∷ 55_762_081 ∷ 63_719_948 ∷ 77_925_293 ∷ 45_234_247 ∷ 44_044_273 ∷ 42_901_032 ∷ [])
    ∷ cents_case distinct_sheet replaced_plan 50_000 10 10
    (210_100 ∷ 473_764 ∷ 497_676 ∷ 780_478 ∷ 823_873 ∷ 1_037_950 ∷ 1_399_446 ∷ 895_624 ∷ 961_452 ∷ 1_032_490 ∷ [])
    -- past year 15 there are units alone; what is paid in year 15 is in both: maintenance and an investment, or an overhaul
    ∷ units_case long_sheet (replacing 0 (17 ∷ [])) 10_000 19 17 (replicate 15 10_000 ++ (30_000 ∷ 10_000 ∷ 10_000 ∷ 7 ∷ []))
    ∷ cents_case long_sheet (replacing 0 (15 ∷ 17 ∷ [])) 0 18 17 (replicate 15 100 ++ (200 ∷ 7 ∷ []))
    ∷ cents_case long_sheet (replacing 0 (17 ∷ [])) 10_000 18 16
    (100 ∷ 101 ∷ 103 ∷ 105 ∷ 107 ∷ 109 ∷ 111 ∷ 113 ∷ 115 ∷ 117 ∷ 119 ∷ 121 ∷ 123 ∷ 125 ∷ 127 ∷ 373 ∷ [])
    ∷ []

-- refusals: the sheet's, the plan's, then 15, then 16
abbrev pub cases_of_refusals : List Case
cases_of_refusals =
    answer_case (sets ledger_sheet rate_at (bytes32 200_001)) (replacing 0 (2 ∷ [])) 50_001 2 2 (refused 4 3)
    ∷ answer_case ledger_sheet (replacing 0 (2 ∷ [])) 50_001 2 2 (refused 14 3)
    ∷ answer_case ledger_sheet ledger_plan 50_001 2 2 (refused 15 3)
    ∷ answer_case ledger_sheet ledger_plan 50_001 3 3 (refused 15 3)
    ∷ answer_case ledger_sheet ledger_plan 50_000 2 3 (refused 16 3)
    ∷ answer_case ledger_sheet ledger_plan 50_000 3 2 (refused 16 3)
    ∷ answer_case ledger_sheet ledger_plan 50_000 3 3 (accepted 154_652)
    -- 18 and 16 words are enough for T = 17
    ∷ answer_case long_sheet (replacing 0 (17 ∷ [])) 0 18 15 (refused 16 3)
    ∷ answer_case long_sheet (replacing 0 (17 ∷ [])) 0 17 16 (refused 16 3)
    ∷ answer_case long_sheet (replacing 0 (17 ∷ [])) 0 18 16 (accepted 200_000)
    -- a refused call leaves both lists
    ∷ units_case ledger_sheet ledger_plan 50_000 3 2 (7 ∷ 7 ∷ 7 ∷ [])
    ∷ cents_case ledger_sheet ledger_plan 50_001 3 3 (7 ∷ 7 ∷ 7 ∷ [])
    ∷ []
