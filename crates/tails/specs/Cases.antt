-- The words of document 01's sheets 9 to 12, of the sheet of its cases 6 to 8, and of case 12's sheet with a removal, worked out by hand from the
-- rules. Definitions only.
use Rattle.std.specs.Prelude.{ℕ, List, [], ◌∷◌, map}
use Rattle.base.specs.Cases.{Case}
use Rattle.sheet.specs.Sheet.{sheet_of}
use Rattle.costing.specs.CaseSheets.{no_overhaul, arc_sheet, sheet9, sheet10, sheet11, sheet12, long_sheet12}
use Rattle.tails.specs.Words.{total_of, first_end, tails}

-- words 0 to T, and the first ends of the same years
abbrev pub words_of_sheet : (sheet totals ends : List ℕ) → Case
words_of_sheet sheet totals ends =
    record {
      Figure = List ℕ × List ℕ;
      given = let ts = tails (sheet_of sheet) in (map total_of ts, map first_end ts);
      expected = (totals, ends);
    }

-- the total where no replacements lead to T: 2^64 − 1, written out
abbrev pub absent : ℕ
absent = 18_446_744_073_709_551_615

abbrev pub cases_of_tails : List Case
cases_of_tails =
    -- replacements lead to 5 only from 1, 2 and 5 itself
    words_of_sheet sheet9 (absent ∷ 0 ∷ 0 ∷ absent ∷ absent ∷ 0 ∷ []) (0 ∷ 5 ∷ 5 ∷ 0 ∷ 0 ∷ 0 ∷ [])
    -- from 0, ends 3, 7 and 4, 7 have the same total: the later first end is taken
    ∷ words_of_sheet sheet10 (0 ∷ 0 ∷ absent ∷ 0 ∷ 0 ∷ absent ∷ absent ∷ 0 ∷ []) (4 ∷ 4 ∷ 0 ∷ 7 ∷ 7 ∷ 0 ∷ 0 ∷ 0 ∷ [])
    ∷ words_of_sheet sheet11 (30_000 ∷ 20_000 ∷ 10_000 ∷ 0 ∷ []) (2 ∷ 3 ∷ 3 ∷ 0 ∷ [])
    ∷ words_of_sheet sheet12 (240_000 ∷ 230_000 ∷ 120_000 ∷ 110_000 ∷ 0 ∷ []) (2 ∷ 3 ∷ 4 ∷ 4 ∷ 0 ∷ [])
    -- with r 40,000 a later start costs less: from 1 it is case 6
    ∷ words_of_sheet (arc_sheet no_overhaul) (47_002 ∷ 27_755 ∷ 18_139 ∷ 0 ∷ []) (2 ∷ 3 ∷ 3 ∷ 0 ∷ [])
    -- a removal of 3 where a replacement ends before T, none at T
    ∷ words_of_sheet long_sheet12 (270_000 ∷ 260_000 ∷ 120_000 ∷ 110_000 ∷ 0 ∷ []) (2 ∷ 3 ∷ 4 ∷ 4 ∷ 0 ∷ [])
    ∷ []
