-- Which arcs a sheet offers: document 01, 'Feasible chains' and row 13 of the refusal table. `OfferedLaws.antt` shows that the test and the
-- facts agree. Definitions only.
use Rattle.std.specs.Prelude.{ℕ, ◌-◌, ◌≤◌, ◌≡◌, ◌⊎◌, Bool, ◌&&◌, ◌||◌, leb, eqb}
use Rattle.sheet.specs.Sheet.{PlanningSheet}

-- option not above 2, end not above T nor before start, maintain from 0
abbrev pub placed : (horizon option start end : ℕ) → Bool
placed horizon option start end = leb option 2 && leb end horizon && leb start end && (leb 1 option || eqb start 0)

-- a length of n years: between the shortest and the longest life; maintain and renovate may also have length 0
abbrev pub length_offered : (shortest longest option n : ℕ) → Bool
length_offered shortest longest option n = (leb 1 n && leb shortest n && leb n longest) || (eqb n 0 && leb option 1)

unfoldable pub offered : PlanningSheet → (option start end : ℕ) → Bool
offered p option start end =
    placed p.horizon option start end
    && length_offered (p.option option).shortest (p.option option).longest option (end - start)

-- the same, as facts
abbrev pub LengthOffered : (shortest longest option n : ℕ) → Type 0
LengthOffered shortest longest option n = ((1 ≤ n) × (shortest ≤ n) × (n ≤ longest)) ⊎ ((n ≡ 0) × (option ≤ 1))

pub record Offered (p : PlanningSheet) (option start end : ℕ) : Type 0 where
  pub known : option ≤ 2
  pub inside : end ≤ p.horizon
  pub forward : start ≤ end
  pub maintain : option ≡ 0 → start ≡ 0
  pub lasting : LengthOffered (p.option option).shortest (p.option option).longest option (end - start)
