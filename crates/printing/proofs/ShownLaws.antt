-- What is printed of a sheet (`shows`): its refusal, refusal 11, or the chosen chain; and what is then left in a text (`sheet_left`,
-- `sheet_put`). Assumes nothing.
use Prim.Native.Nat.{ℕ, ◌≤◌, ◌<◌}
use mathlib.Core.Path.{◌≡◌, refl, subst, sym, ◌∙◌}
use mathlib.Core.List.{List}
use native.Mathlib.Omega.{arith}
use lib.ListN.{length, take, length-replicate}
use borrow.Author.Tests.{eq-eqb, ne_eqb, le-leb, lt-leb}
use Rattle.base.specs.Answer.{refused}
use Rattle.base.specs.declared.Answer.{Answer}
use Rattle.sheet.specs.Sheet.{sheet_of}
use Rattle.checking.specs.Refusals.{checked}
use Rattle.checking.specs.Passes.{Passes}
use Rattle.checking.proofs.PassesLaws.{checked-iff}
use Rattle.chain.specs.Chain.{Chain, Feasible, rounded_total}
use Rattle.chain.specs.PlanBytes.{plan_length}
use Rattle.chain.proofs.FeasibleLaws.{few_ends}
use Rattle.tails.specs.Words.{words_needed}
use Rattle.planning.specs.Planning.{found, plan_answer, plan_after}
use Rattle.planner.specs.Ways.{Done, Way, faulty, few, none, short, written}
use Rattle.planner.proofs.WayLaws.{way}
use Rattle.planner.proofs.DoneLaws.{done_decode, done_field}
use Rattle.lines.specs.Lines.{plan_lines, lines_of, refused_line}
use Rattle.lines.specs.Texts.{text_for, AtFront}
use Rattle.lines.specs.Puts.{Puts}
use Rattle.lines.proofs.TextLaws.{at_front, put_front, put_length, put_read}
use Rattle.printing.specs.Showing.{printed, plan_room, plan_words, shown, text_after, text_length, Shows}

-- what is printed of an answer
printed_lines : (a : Answer) (plan : List ℕ) → a.number ≡ 0 → printed a plan ≡ lines_of plan
unfolding printed
printed_lines a plan e = rw (eq-eqb a.number 0 e)

printed-refused : (a : Answer) (plan : List ℕ) → (a.number ≡ 0 → ⊥) → printed a plan ≡ refused_line a.number a.option
unfolding printed
printed-refused a plan h = rw (ne_eqb a.number 0 h)

-- the plan bytes and the words are enough
module _ (s : List ℕ) where
  ready_words : words_needed ≤ length plan_words
  ready_words = omega (arith, length-replicate {A = ℕ} words_needed 0)

  ready_room : Passes s → (c : Chain) → Feasible (sheet_of s) c → plan_length c ≤ length plan_room
  ready_room h c f = omega (arith, length-replicate {A = ℕ} 619 0, h.header.horizon.1, few_ends (sheet_of s) c f)

  shown_as : (a : Answer) → plan_answer s plan_room plan_words ≡ a → shown s ≡ printed a (plan_after s plan_room plan_words)
  unfolding shown
  shown_as a e = rw e refl

  -- as a call of planning answered and left it
  module _ (a : Answer) (plan : List ℕ) (answer : a ≡ plan_answer s plan_room plan_words) (after : plan ≡ plan_after s plan_room plan_words) where
    pub shown_plan : a.number ≡ 0 → shown s ≡ lines_of plan
    shown_plan e = shown_as a (sym answer) ∙ rw (← after) (printed_lines a plan e)

    pub shown_refusal : (a.number ≡ 0 → ⊥) → shown s ≡ refused_line a.number a.option
    shown_refusal h = shown_as a (sym answer) ∙ printed-refused a _ h

  shown_lines : Done s plan_room plan_words → shown s ≡ plan_lines (rounded_total (sheet_of s) (found (sheet_of s))) (found (sheet_of s))
  shown_lines d =
      shown_as _ d.answer ∙ printed_lines _ _ refl
      ∙ rw (done_decode s plan_room plan_words d, done_field s plan_room plan_words d) refl

  shows_way : Way s plan_room plan_words → Shows s (shown s)
  shows_way (faulty f a l w) =
      record {
        refused = λ _. shown_refusal (checked s) _ (sym a) refl (λ e. f ((checked-iff s).0 e));
        none = λ h. absurd (f h);
        chosen = λ h. absurd (f h);
      }
  shows_way (few h l a b w) = absurd (omega (arith, ready_words))
  shows_way (none h f a l) =
      record {
        refused = λ n. absurd (n h.passes);
        none = λ _ _. shown_refusal (refused 11 3) _ (sym a) refl (λ e. omega arith);
        chosen = λ _ c k. absurd (f c k);
      }
  shows_way (short h c l a b) = absurd (omega (arith, ready_room h.passes (found (sheet_of s)) c.feasible))
  shows_way (written d) =
      record {
        refused = λ n. absurd (n d.ready.passes);
        none = λ _ f. absurd (f (found (sheet_of s)) d.chosen.feasible);
        chosen = λ _ _ _. (found (sheet_of s), (d.chosen, shown_lines d));
      }

  pub shows : Shows s (shown s)
  shows = shows_way (way s plan_room plan_words)

  module _ (text : List ℕ) where
    -- what the text holds and what is answered
    abbrev SheetPut : (text' : List ℕ) (r : ℕ) → Type 0
    SheetPut text' r =
        (text' ≡ text_after s text)
        × ((r ≡ text_length s text) × (AtFront r text' × (text_for 300 ≤ length text → Shows s (take r text'))))

    pub sheet_left : length text < text_for 300 → SheetPut text 0
    unfolding text_after text_length
    sheet_left h = rw (lt-leb (text_for 300) (length text) h) (refl, (refl, (at_front 0 text (omega arith), λ k. absurd (omega arith))))

    pub sheet_put : text_for 300 ≤ length text → (text' : List ℕ) (r : ℕ) → Puts text 0 (shown s) text' r → SheetPut text' r
    unfolding text_after text_length
    sheet_put h text' r put =
        rw (le-leb (text_for 300) (length text) h)
        (put.stored, (put_length put, (put_front put, λ _. subst (Shows s) (sym (put_read put)) shows)))
