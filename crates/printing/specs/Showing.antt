-- What is printed of a sheet, and what is left in a lent text: document 01, the program `planshow`. Definitions only.
use Rattle.std.specs.Prelude.{ℕ, ◌≡◌, Bool, cond, List, leb, eqb, length, replicate}
use Rattle.std.proofs.lemmas.List.Edits.{sets}
use Rattle.base.specs.declared.Answer.{Answer}
use Rattle.sheet.specs.Sheet.{sheet_of}
use Rattle.checking.specs.Refusals.{checked}
use Rattle.checking.specs.Passes.{Passes}
use Rattle.chain.specs.Chain.{Chain, Feasible, rounded_total}
use Rattle.chain.specs.ChosenChain.{ChosenChain}
use Rattle.tails.specs.Words.{words_needed}
use Rattle.planning.specs.Planning.{plan_answer, plan_after}
use Rattle.lines.specs.Lines.{plan_lines, lines_of, refused_line}
use Rattle.lines.specs.Texts.{text_for}

-- what planning answered and wrote: the lines of the plan, or the refusal
unfoldable pub printed : Answer → (plan : List ℕ) → List ℕ
printed a plan = cond (eqb a.number 0) (lines_of plan) (refused_line a.number a.option)

-- a sheet is planned in 619 = 19 + 2 · 300 plan bytes and 301 words, which are enough for every sheet; what is in them does not matter
abbrev pub plan_room : List ℕ
plan_room = replicate 619 0

abbrev pub plan_words : List ℕ
plan_words = replicate words_needed 0

unfoldable pub shown : (sheet : List ℕ) → List ℕ
shown s = printed (plan_answer s plan_room plan_words) (plan_after s plan_room plan_words)

-- 6,069 bytes are enough for every sheet; with fewer the text is left, and 0 bytes are answered
abbrev pub roomy : (text : List ℕ) → Bool
roomy text = leb (text_for 300) (length text)

unfoldable pub text_after : (sheet text : List ℕ) → List ℕ
text_after s text = cond (roomy text) (sets text 0 (shown s)) text

unfoldable pub text_length : (sheet text : List ℕ) → ℕ
text_length s text = cond (roomy text) (length (shown s)) 0

-- What is owed of every sheet, with no word of how a chain is found: a sheet that does not pass the checks is printed as its refusal, one
-- that passes and has no feasible chain as refusal 11; and as soon as some chain is feasible there is a chosen one, which is printed with its
-- rounded total.
pub record Shows (s text' : List ℕ) : Type 0 where
  pub refused : (Passes s → ⊥) → text' ≡ refused_line (checked s).number (checked s).option
  pub none : Passes s → ((c : Chain) → Feasible (sheet_of s) c → ⊥) → text' ≡ refused_line 11 3
  pub chosen :
      Passes s → (c : Chain) → Feasible (sheet_of s) c
      → (d : Chain) × (ChosenChain (sheet_of s) d × (text' ≡ plan_lines (rounded_total (sheet_of s) d) d))
