-- What is left in a lent text when a plan is printed to it. Definitions only.
use Rattle.std.specs.Prelude.{ℕ, ◌+◌, ◌*◌, ◌≤◌, ◌≡◌, List, Bool, cond, ◌&&◌, leb, length, take}
use Rattle.std.proofs.lemmas.List.Edits.{sets}
use Rattle.chain.specs.PlanBytes.{plan_size, count_field}
use Rattle.lines.specs.Lines.{lines_of}

-- A text of 69 + 20m bytes holds the lines of every plan: 27 of the total, 21 each of maintain and renovate, 20 of each replacement. A total
-- has at most 20 digits, a year at most 5.
abbrev pub text_for : (m : ℕ) → ℕ
text_for m = 69 + 20 * m

-- the plan lies whole in its bytes, and the text is long enough for it
abbrev pub printable : (plan text : List ℕ) → Bool
printable plan text = leb (plan_size (count_field plan)) (length plan) && leb (text_for (count_field plan)) (length text)

-- what a text holds after a plan was printed to its front, and how many bytes that took; else it is left, and they are 0
unfoldable pub lines_after : (plan text : List ℕ) → List ℕ
lines_after plan text = cond (printable plan text) (sets text 0 (lines_of plan)) text

unfoldable pub lines_length : (plan text : List ℕ) → ℕ
lines_length plan text = cond (printable plan text) (length (lines_of plan)) 0

-- so many bytes at the front of a text; the second part follows from the first, and is what lending them asks
abbrev pub AtFront : ℕ → List ℕ → Type 0
AtFront n text = (n ≤ length text) × (n ≡ length (take n text))
