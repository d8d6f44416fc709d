-- How long a total and a year are (`total_length`, `year-length`), and the lines of replacements, one by one (`replaced_next`,
-- `replaced_none`); what the check tries together (`lining`, `replacing`). Assumes nothing.
use Prim.Native.Nat.{ℕ, ◌≤◌, ◌<◌}
use mathlib.Core.Path.{◌≡◌}
use mathlib.Core.List.{List, [], ◌∷◌, ◌++◌}
use native.Mathlib.Omega.{arith}
use lib.ListN.{length}
use Rattle.chain.specs.Chain.{replacements}
use Rattle.chain.proofs.PlanBytesLaws.{ends_more, ends_done}
use Rattle.lines.specs.Lines.{spaced, replace_word, pair_line, activity_lines}
use Rattle.lines.proofs.DecimalLaws.{decimal-length}
use Rattle.lines.proofs.PutLaws.{puts_length, puts_left}

-- a total has at most 20 digits, a year at most 5
pub total_length : (x : ℕ) → x < 100_000_000_000_000_000_000 → length (spaced x) ≤ 21
total_length x h = omega (arith, decimal-length 19 x h)

pub year-length : (x : ℕ) → x ≤ 65_535 → length (spaced x) ≤ 6
year-length x h = omega (arith, decimal-length 4 x (omega arith))

-- the lines of replacements: of the next end and of the others, and of none
module _ (year : ℕ) {ends : List ℕ} where
  pub replaced_next :
      {end : ℕ} {others : List ℕ}
      → ends ≡ end ∷ others
      → activity_lines (replacements year ends) ≡ pair_line replace_word year end ++ activity_lines (replacements end others)
  unfolding replacements activity_lines
  replaced_next next = rw next

  pub replaced_none : ends ≡ [] → activity_lines (replacements year ends) ≡ []
  unfolding replacements activity_lines
  replaced_none none = rw none

-- what a line asks for that is put, and what a walk over the ends does
pub ruleset lining = (puts_length, total_length, year-length)

pub ruleset replacing = (ends_more, ends_done, puts_length, puts_left, replaced_next, replaced_none)
