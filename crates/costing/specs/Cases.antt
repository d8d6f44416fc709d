-- Arcs costed, a list of what the rules give beside what it should be: document 01's cases 6 to 8, worked out again as request 1
-- asks, an arc of each option of a sheet whose fields all differ, arcs with motors that age, arcs with removals, and each reason of refusal 13.
-- `CaseLaws.antt` evaluates them. Definitions only.
use Rattle.std.specs.Prelude.{ℕ, List, [], ◌∷◌}
use Rattle.std.proofs.lemmas.List.Edits.{sets}
use Rattle.base.specs.Answer.{accepted, refused}
use Rattle.base.specs.Cases.{Case}
use Rattle.base.specs.declared.Answer.{Answer}
use Rattle.sheet.specs.CaseBytes.{bytes32}
use Rattle.sheet.specs.Sheet.{maintain, renovate, replace}
use Rattle.checking.specs.CaseSheets.{rate_at}
use Rattle.costing.specs.Costing.{costed}
use Rattle.costing.specs.CaseSheets.{no_overhaul, one_overhaul, arc_sheet, motor_sheet, old_motors_sheet, distinct_sheet, long_distinct, without, long_sheet12, removal_sheet}

-- what costing answers for an option of a sheet, from a start to an end
abbrev pub cost_case : (sheet : List ℕ) (option start end : ℕ) → Answer → Case
cost_case sheet option start end answer = record { Figure = Answer; given = costed sheet option start end; expected = answer }

abbrev pub cases_six_to_eight : List Case
cases_six_to_eight =
    cost_case (arc_sheet no_overhaul) 2 1 3 (accepted 27_755)
    ∷ cost_case (arc_sheet (one_overhaul 1 1)) 2 1 3 (accepted 37_002)
    ∷ cost_case (arc_sheet (one_overhaul 1 1)) 2 1 2 (accepted 18_863)
    ∷ []

-- every field of a record goes into the arc's cost, in which both overhauls are paid; the totals were worked out apart from these definitions
abbrev pub cases_of_arcs : List Case
cases_of_arcs =
    cost_case distinct_sheet 0 0 5 (accepted 155_914_852)
    ∷ cost_case distinct_sheet 1 2 8 (accepted 254_415_330)
    ∷ cost_case distinct_sheet 2 3 8 (accepted 342_396_093)
    ∷ []

-- request 4: the motors of a renovation are in service since year 0, which tells where g is above 0 and the start is
abbrev pub cases_of_motors : List Case
cases_of_motors =
    -- 9,432 with new motors
    cost_case (motor_sheet renovate 0) renovate 1 2 (accepted 9_621)
    -- 18,683 with new motors
    ∷ cost_case (motor_sheet renovate 0) renovate 1 3 (accepted 19_058)
    -- from year 0 on they are as old as the arc
    ∷ cost_case (motor_sheet renovate 0) renovate 0 2 (accepted 19_429)
    -- maintenance ages from the start: 19,242 if it aged from year 0 too
    ∷ cost_case (motor_sheet renovate 1) renovate 1 2 (accepted 19_053)
    -- a replacement has new motors
    ∷ cost_case (motor_sheet replace 0) replace 1 2 (accepted 9_432)
    ∷ []

-- request 6: a renovation or replacement of positive length that ends before T pays removal in its end year
abbrev pub cases_of_removal : List Case
cases_of_removal =
    -- 120,000 and 30,000; an arc that ends at T pays none; 280,000 and 30,000
    cost_case long_sheet12 replace 0 2 (accepted 150_000)
    ∷ cost_case long_sheet12 replace 2 4 (accepted 120_000)
    ∷ cost_case long_sheet12 replace 0 3 (accepted 310_000)
    -- maintaining pays none; a renovation pays its own, after two and after three plain steps; none at T, none at length 0
    ∷ cost_case removal_sheet maintain 0 1 (accepted 0)
    ∷ cost_case removal_sheet renovate 1 2 (accepted 9_432)
    ∷ cost_case removal_sheet renovate 1 3 (accepted 9_160)
    ∷ cost_case removal_sheet renovate 2 4 (accepted 0)
    ∷ cost_case removal_sheet renovate 1 1 (accepted 0)
    -- a replacement pays its own
    ∷ cost_case removal_sheet replace 1 3 (accepted 17_253)
    ∷ cost_case removal_sheet replace 2 4 (accepted 0)
    -- beside all that the same arcs of the sheet without removals pay, which `cases_of_arcs` has
    ∷ cost_case long_distinct maintain 0 5 (accepted 155_914_852)
    ∷ cost_case long_distinct renovate 2 8 (accepted 268_568_789)
    ∷ cost_case long_distinct replace 3 8 (accepted 375_008_284)
    -- a sheet of version 1 has none, though its next record begins with other bytes than 0
    ∷ cost_case old_motors_sheet renovate 0 1 (accepted 9_808)
    ∷ []

-- refusal 13, each reason beside an arc that does not have it
abbrev pub cases_of_thirteen : List Case
cases_of_thirteen =
    -- option above 2
    cost_case distinct_sheet 3 3 8 (refused 13 3)
    -- end above T, which is 9
    ∷ cost_case distinct_sheet 2 6 10 (refused 13 3)
    ∷ cost_case distinct_sheet 2 6 9 (accepted 186_637_805)
    -- end before start
    ∷ cost_case distinct_sheet 1 6 5 (refused 13 3)
    ∷ cost_case distinct_sheet 1 6 6 (accepted 0)
    -- maintain not from 0
    ∷ cost_case distinct_sheet 0 1 5 (refused 13 3)
    ∷ cost_case distinct_sheet 0 0 4 (accepted 133_415_972)
    -- length not offered: replacements last 3 to 6 years
    ∷ cost_case distinct_sheet 2 3 5 (refused 13 3)
    ∷ cost_case distinct_sheet 2 3 6 (accepted 214_953_637)
    ∷ cost_case distinct_sheet 2 2 8 (accepted 408_143_257)
    ∷ cost_case distinct_sheet 2 2 9 (refused 13 3)
    -- length 0, which only maintain and renovate have; it costs 0, investment included
    ∷ cost_case distinct_sheet 0 0 0 (accepted 0)
    ∷ cost_case distinct_sheet 1 3 3 (accepted 0)
    ∷ cost_case distinct_sheet 2 3 3 (refused 13 3)
    -- an option that is not offered
    ∷ cost_case (without 1) 1 2 8 (refused 13 3)
    ∷ cost_case (without 1) 1 3 3 (accepted 0)
    ∷ cost_case (without 2) 2 3 3 (refused 13 3)
    -- refusals 1 to 9 come first
    ∷ cost_case (sets distinct_sheet rate_at (bytes32 200_001)) 3 3 8 (refused 4 3)
    ∷ []
