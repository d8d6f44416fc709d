-- The lines in which a plan is printed, as bytes: document 01, the program `planshow`. "The first line has units; the others an activity with
-- its start and end year. A refusal prints `refused`, its number and its option, separated by blanks." Definitions only.
use Rattle.std.specs.Prelude.{ℕ, zero, suc, ◌+◌, ◌/◌, ◌%◌, cond, List, [], ◌∷◌, ◌++◌, ltb}
use Rattle.chain.specs.Chain.{Chain, Activity, activities}
use Rattle.chain.specs.PlanBytes.{total_field, decode}

-- how many digits a number has: one below 10, and one more than its tenth has from there on; `most` is how often it may be divided
unfoldable pub places : (most number : ℕ) → ℕ
places zero x = 1
places (suc n) x = cond (ltb x 10) 1 (suc (places n (x / 10)))

-- that many digits of a number, up to its last one; 48 is `0`
unfoldable pub digits : (count number : ℕ) → List ℕ
digits zero x = []
digits (suc n) x = digits n (x / 10) ++ (48 + x % 10) ∷ []

-- a number in base ten, without zeros before it; 20 digits hold every u64
unfoldable pub decimal : ℕ → List ℕ
decimal x = digits (places 19 x) x

-- a blank and a number
abbrev pub spaced : ℕ → List ℕ
spaced x = 32 ∷ decimal x

-- the end of a line
abbrev pub newline : List ℕ
newline = 10 ∷ []

-- `total`
abbrev pub total_word : List ℕ
total_word = 116 ∷ 111 ∷ 116 ∷ 97 ∷ 108 ∷ []

-- `maintain`
abbrev pub maintain_word : List ℕ
maintain_word = 109 ∷ 97 ∷ 105 ∷ 110 ∷ 116 ∷ 97 ∷ 105 ∷ 110 ∷ []

-- `renovate`
abbrev pub renovate_word : List ℕ
renovate_word = 114 ∷ 101 ∷ 110 ∷ 111 ∷ 118 ∷ 97 ∷ 116 ∷ 101 ∷ []

-- `replace`
abbrev pub replace_word : List ℕ
replace_word = 114 ∷ 101 ∷ 112 ∷ 108 ∷ 97 ∷ 99 ∷ 101 ∷ []

-- `refused`
abbrev pub refused_word : List ℕ
refused_word = 114 ∷ 101 ∷ 102 ∷ 117 ∷ 115 ∷ 101 ∷ 100 ∷ []

-- the word of an option
abbrev pub option_word : (option : ℕ) → List ℕ
option_word zero = maintain_word
option_word (suc zero) = renovate_word
option_word (suc (suc n)) = replace_word

-- a line of a word and a number, and one of a word and two numbers
unfoldable pub line : (word : List ℕ) (number : ℕ) → List ℕ
line word x = word ++ spaced x ++ newline

unfoldable pub pair_line : (word : List ℕ) (first second : ℕ) → List ℕ
pair_line word x y = word ++ spaced x ++ spaced y ++ newline

-- an activity with its start and end year
abbrev pub activity_line : Activity → List ℕ
activity_line a = pair_line (option_word a.option) a.start a.end

unfoldable pub activity_lines : List Activity → List ℕ
activity_lines [] = []
activity_lines (a ∷ l) = activity_line a ++ activity_lines l

-- the first line has units; the others the chain's activities
unfoldable pub plan_lines : (total : ℕ) → Chain → List ℕ
plan_lines total c = line total_word total ++ activity_lines (activities c)

-- the same of plan bytes
abbrev pub lines_of : (plan : List ℕ) → List ℕ
lines_of plan = plan_lines (total_field plan) (decode plan)

-- `refused`, the number and the option
abbrev pub refused_line : (number option : ℕ) → List ℕ
refused_line number option = pair_line refused_word number option
