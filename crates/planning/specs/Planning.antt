-- What planning answers, and what it leaves in its buffers: document 01, 'Feasible chains', and rows 10 to 12 of its refusal table, with 10 as
-- request 3 of document 02 has it. Definitions only.
use Rattle.std.specs.Prelude.{ℕ, List, Bool, cond, ◌||◌, leb, ltb, eqb, length}
use Rattle.std.proofs.lemmas.List.Edits.{sets}
use Rattle.base.specs.Answer.{accepted, refused, ◌or_else◌}
use Rattle.base.specs.declared.Answer.{Answer}
use Rattle.sheet.specs.Sheet.{PlanningSheet, sheet_of}
use Rattle.checking.specs.Refusals.{checked}
use Rattle.choice.specs.Running.{no_total}
use Rattle.chain.specs.Chain.{Chain}
use Rattle.chain.specs.Counting.{arcs_offered}
use Rattle.chain.specs.PlanBytes.{plan_length, encode}
use Rattle.chain.specs.Years.{chain_of}
use Rattle.tails.specs.Words.{words_needed, tail_words}
use Rattle.front.specs.Planned.{planned}

-- the chain that planning finds, if there is one
abbrev pub found : PlanningSheet → Chain
found p = chain_of (planned p).ends

-- 11: no feasible chain; 12: plan buffer shorter than 19 + 2m for the chain chosen; else its total
unfoldable pub planning : PlanningSheet → (room : ℕ) → Answer
planning p room =
    cond (eqb (planned p).total no_total) (refused 11 3)
    (cond (ltb room (plan_length (found p))) (refused 12 3) (accepted (planned p).total))

-- the plan of that chain at the front of a buffer
abbrev pub plan_with : PlanningSheet → List ℕ → List ℕ
plan_with p plan = sets plan 0 (encode (planned p).total (found p))

-- 10: fewer than 301 words lent
abbrev pub words_enough : List ℕ → Bool
words_enough words = leb words_needed (length words)

-- refusals 1 to 9, then 10, 11 and 12
unfoldable pub plan_answer : (sheet plan words : List ℕ) → Answer
plan_answer s plan words = checked s or_else cond (words_enough words) (planning (sheet_of s) (length plan)) (refused 10 3)

-- The table's column 'Left': an accepted call writes the plan, every refusal leaves it. The words are left unless the number is 0, 11 or 12.
abbrev pub plan_touched : ℕ → Bool
plan_touched number = eqb number 0

abbrev pub words_touched : ℕ → Bool
words_touched number = eqb number 0 || eqb number 11 || eqb number 12

-- what the plan buffer holds after the call; the bytes behind the plan are untouched
unfoldable pub plan_after : (sheet plan words : List ℕ) → List ℕ
plan_after s plan words =
    cond (plan_touched (plan_answer s plan words).number) (plan_with (sheet_of s) plan) plan

-- the same, where the sheet is at hand
unfoldable pub plan_written : PlanningSheet → List ℕ → List ℕ
plan_written p plan = cond (plan_touched (planning p (length plan)).number) (plan_with p plan) plan

-- what the words hold after the call
unfoldable pub words_after : (sheet plan words : List ℕ) → List ℕ
words_after s plan words = cond (words_touched (plan_answer s plan words).number) (tail_words (sheet_of s) words) words

-- For request 7, which no call answers yet: with an accepted plan the number of arcs that the sheet offers, with a refusal 0.
abbrev pub count_with : Answer → PlanningSheet → ℕ
count_with a p = cond (eqb a.number 0) (arcs_offered p) 0

unfoldable pub plan_weighed : (sheet plan words : List ℕ) → ℕ
plan_weighed s plan words = count_with (plan_answer s plan words) (sheet_of s)
