-- Document 01's cases 9 to 12, planned, and the list of all twelve; and further plannings, of its sheets and of longer ones, worked out by hand
-- from the rules. The bytes of plans are written out, not encoded. Definitions only.
use Rattle.std.specs.Prelude.{ℕ, ◌-◌, List, [], ◌∷◌, ◌++◌, length, replicate}
use Rattle.base.specs.Answer.{accepted, refused}
use Rattle.base.specs.Cases.{Case}
use Rattle.base.specs.declared.Answer.{Answer}
use Rattle.steps.specs.Cases.{cases_one_to_five}
use Rattle.costing.specs.CaseSheets.{sheet9, sheet10, sheet11, sheet12, one_overhaul, long_replace_sheet, long_sheet12, old_motors_sheet, free_sheet}
use Rattle.costing.specs.Cases.{cases_six_to_eight}
use Rattle.chain.specs.CasePlans.{plan_of}
use Rattle.tails.specs.Cases.{absent}
use Rattle.planning.specs.Planning.{plan_answer, plan_after, words_after}

-- what planning answers, and what a plan buffer that was full of 255 then holds
abbrev pub plan_case_with : (sheet : List ℕ) (room words : ℕ) → Answer → (after : List ℕ) → Case
plan_case_with sheet room words answer after =
    let plan : List ℕ = replicate room 255 in
    let lent : List ℕ = replicate words 0 in
    record {
      Figure = Answer × List ℕ;
      given = (plan_answer sheet plan lent, plan_after sheet plan lent);
      expected = (answer, after);
    }

abbrev pub plan_case : (sheet : List ℕ) (room : ℕ) → Answer → (after : List ℕ) → Case
plan_case sheet room answer after = plan_case_with sheet room 301 answer after

-- which words are written, from word 0 on; all others hold what all held before
abbrev pub words_case : (sheet : List ℕ) (room words : ℕ) (written : List ℕ) → Case
words_case sheet room words written =
    let plan : List ℕ = replicate room 255 in
    record { Figure = List ℕ; given = words_after sheet plan (replicate words 7); expected = written ++ replicate (words - length written) 7 }

-- 0; 30,000 = 117 × 256 + 48; 240,000 = (3 × 256 + 169) × 256 + 128
abbrev pub total10 : List ℕ
total10 = replicate 8 0

abbrev pub total11 : List ℕ
total11 = 48 ∷ 117 ∷ replicate 6 0

abbrev pub total12 : List ℕ
total12 = 128 ∷ 169 ∷ 3 ∷ replicate 5 0

-- 270,000 = (4 × 256 + 30) × 256 + 176
abbrev pub total_with_removal : List ℕ
total_with_removal = 176 ∷ 30 ∷ 4 ∷ replicate 5 0

-- 9,525 = 37 × 256 + 53
abbrev pub total_of_motors : List ℕ
total_of_motors = 53 ∷ 37 ∷ replicate 6 0

-- (9) refused 11; (10) accepted; (11) ends 2, 3, total 30,000; (12) ends 2, 4, total 240,000
abbrev pub cases_nine_to_twelve : List Case
cases_nine_to_twelve =
    plan_case sheet9 23 (refused 11 3) (replicate 23 255)
    ∷ plan_case sheet10 23 (accepted 0) (plan_of total10 0 0 (4 ∷ 7 ∷ []))
    ∷ plan_case sheet11 23 (accepted 30_000) (plan_of total11 0 0 (2 ∷ 3 ∷ []))
    ∷ plan_case sheet12 23 (accepted 240_000) (plan_of total12 0 0 (2 ∷ 4 ∷ []))
    ∷ []

-- all of document 01's cases
abbrev pub cases_one_to_twelve : List Case
cases_one_to_twelve = cases_one_to_five ++ cases_six_to_eight ++ cases_nine_to_twelve

abbrev pub cases_of_planning : List Case
cases_of_planning =
    -- nothing to pay, so that every total is 0: the largest i, then the largest j, then the later end
    plan_case (free_sheet 1 2 1 1 1 1) 23 (accepted 0) (plan_of total10 2 3 [] ++ replicate 4 255)
    ∷ plan_case (free_sheet 1 1 1 1 1 2) 23 (accepted 0) (plan_of total10 1 2 (3 ∷ []) ++ replicate 2 255)
    ∷ plan_case (free_sheet 0 0 1 2 1 1) 23 (accepted 0) (plan_of total10 0 2 (3 ∷ []) ++ replicate 2 255)
    ∷ plan_case (free_sheet 0 0 0 0 1 2) 23 (accepted 0) (plan_of total10 0 0 (2 ∷ 3 ∷ []))
    -- renovating with motors a year old costs more than a replacement's 9,525; with new ones it would cost 9,432 and be planned
    ∷ plan_case old_motors_sheet 23 (accepted 9_525) (plan_of total_of_motors 1 1 (2 ∷ []) ++ replicate 2 255)
    -- request 6: case 12's sheet with removal 3; and a sheet with T = 2 and an overhaul of 15 at age 1, on which two replacements cost 22, and 28 with a
    -- removal of 6 between them, where one costs 27
    ∷ plan_case long_sheet12 23 (accepted 270_000) (plan_of total_with_removal 0 0 (2 ∷ 4 ∷ []))
    ∷ plan_case (long_replace_sheet 2 1 2 10 1 (one_overhaul 1 15) 6) 23 (accepted 270_000) (plan_of total_with_removal 0 0 (2 ∷ []) ++ replicate 2 255)
    -- the bytes behind the plan are left; a buffer that is a byte too short is left; no chain comes before no room
    ∷ plan_case sheet12 25 (accepted 240_000) (plan_of total12 0 0 (2 ∷ 4 ∷ []) ++ (255 ∷ 255 ∷ []))
    ∷ plan_case sheet12 22 (refused 12 3) (replicate 22 255)
    ∷ plan_case sheet9 0 (refused 11 3) []
    -- a word too few
    ∷ plan_case_with sheet12 23 300 (refused 10 3) (replicate 23 255)
    -- words 0 to T are written on 0, 12 and 11, however many there are, and none on 10
    ∷ words_case sheet12 23 301 (240_000 ∷ 230_000 ∷ 120_000 ∷ 110_000 ∷ 0 ∷ [])
    ∷ words_case sheet12 22 602 (240_000 ∷ 230_000 ∷ 120_000 ∷ 110_000 ∷ 0 ∷ [])
    ∷ words_case sheet9 23 302 (absent ∷ 0 ∷ 0 ∷ absent ∷ absent ∷ 0 ∷ [])
    ∷ words_case sheet12 23 300 []
    ∷ []
