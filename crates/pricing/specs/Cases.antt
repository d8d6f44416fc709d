-- Plans priced: the plans of document 01's cases 11 and 12, with the totals it gives them, other chains of case 12's sheet, a renovation and chains
-- with removals, worked out by hand from the rules, and plans that are refused. The bytes are written out, not encoded. Definitions only.
use Rattle.std.specs.Prelude.{ℕ, List, [], ◌∷◌, ◌++◌, take, replicate}
use Rattle.std.proofs.lemmas.List.Edits.{sets}
use Rattle.base.specs.Answer.{accepted, refused}
use Rattle.base.specs.Cases.{Case}
use Rattle.base.specs.declared.Answer.{Answer}
use Rattle.costing.specs.CaseSheets.{sheet11, sheet12, old_motors_sheet, long_sheet12, removal_sheet, free_sheet}
use Rattle.chain.specs.CasePlans.{plan_of, replacing}
use Rattle.pricing.specs.Pricing.{priced}

abbrev pub priced_case : (sheet plan : List ℕ) (units : ℕ) → Case
priced_case sheet plan units = record { Figure = Answer; given = priced sheet plan; expected = accepted units }

abbrev pub refused_case : (sheet plan : List ℕ) → Case
refused_case sheet plan = record { Figure = Answer; given = priced sheet plan; expected = refused 14 3 }

-- maintaining to 2 and renovating to 3, T of the sheets with nothing to pay
abbrev pub unreplaced : List ℕ
unreplaced = plan_of (replicate 8 0) 2 3 []

abbrev pub cases_of_pricing : List Case
cases_of_pricing =
    -- ends 2, 3, total 30,000, whatever the total field says; ends 2, 4, total 240,000
    priced_case sheet11 (replacing 0 (2 ∷ 3 ∷ [])) 30_000
    ∷ priced_case sheet11 (replacing 255 (2 ∷ 3 ∷ [])) 30_000
    ∷ priced_case sheet12 (replacing 0 (2 ∷ 4 ∷ [])) 240_000
    -- not least: four times 10 and 1; and 10, 3 and 15, then 10 and 1
    ∷ priced_case sheet12 (replacing 0 (1 ∷ 2 ∷ 3 ∷ 4 ∷ [])) 440_000
    ∷ priced_case sheet12 (replacing 0 (3 ∷ 4 ∷ [])) 390_000
    -- a year renovated with motors a year old, where new ones would give 9,432, and a year of a replacement
    ∷ priced_case old_motors_sheet (plan_of (replicate 8 0) 1 2 []) 9_621
    ∷ priced_case old_motors_sheet (plan_of (replicate 8 0) 1 1 (2 ∷ [])) 9_525
    -- with removal 3 before T: ends 2, 4, total 270,000; and 10, 1 and 3, then 10, 2 and 3, then 10 and 1
    ∷ priced_case long_sheet12 (replacing 0 (2 ∷ 4 ∷ [])) 270_000
    ∷ priced_case long_sheet12 (replacing 0 (1 ∷ 3 ∷ 4 ∷ [])) 400_000
    -- maintaining to 1, renovating to 2, replacements to 3 and 4: the removal of the renovation 9,432, of the first replacement 17,253, and no other;
    -- and maintaining to 1 and renovating to 1 pay none
    ∷ priced_case removal_sheet (plan_of (replicate 8 0) 1 2 (3 ∷ 4 ∷ [])) 26_685
    ∷ priced_case removal_sheet (plan_of (replicate 8 0) 1 1 (3 ∷ 4 ∷ [])) 17_253
    -- it stops before T, or goes past it; two ends are equal; a life of longest + 1; a byte behind the plan
    ∷ refused_case sheet12 (replacing 0 (2 ∷ 3 ∷ []))
    ∷ refused_case sheet12 (replacing 0 (2 ∷ 5 ∷ []))
    ∷ refused_case sheet12 (replacing 0 (2 ∷ 2 ∷ 4 ∷ []))
    ∷ refused_case sheet12 (replacing 0 (4 ∷ []))
    ∷ refused_case sheet12 (replacing 0 (2 ∷ 4 ∷ []) ++ (0 ∷ []))
    -- the mark of a sheet; version 2
    ∷ refused_case sheet12 (sets (replacing 0 (2 ∷ 4 ∷ [])) 2 (83 ∷ []))
    ∷ refused_case sheet12 (sets (replacing 0 (2 ∷ 4 ∷ [])) 3 (2 ∷ []))
    -- no replacement: 19 bytes, and one too few
    ∷ priced_case (free_sheet 1 2 1 1 1 1) unreplaced 0
    ∷ refused_case (free_sheet 1 2 1 1 1 1) (take 18 unreplaced)
    ∷ []
