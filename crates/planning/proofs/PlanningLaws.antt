-- What planning answers and leaves, way out by way out. Where the sheet is at hand (`SheetOutcome`): no chain (`planning_none`), a buffer that is
-- too short (`planning_short`), a plan written (`planning_fits`). Of a whole call (`Outcome`): refused by the check (`plan_refused`), too few
-- words (`plan_few`), or as the sheet says (`plan_on`), with the words written (`words_lent`). Nothing of the words enters a plan
-- (`plan_by_length`). How many arcs come with an answer (`count_accepted`, `count_refused`). Assumes nothing.
use Prim.Native.Nat.{ℕ, ◌≤◌, ◌<◌}
use mathlib.Core.Path.{◌≡◌, sym, ◌∙◌}
use mathlib.Core.Bool.{true, false}
use mathlib.Core.List.{List}
use native.Mathlib.Omega.{arith}
use lib.Dec.{ltb, eqb}
use lib.ListN.{length}
use borrow.Author.Tests.{eq-eqb, ne_eqb, le-leb, lt-leb, lt-ltb, le-ltb}
use Rattle.base.specs.Answer.{accepted, refused}
use Rattle.base.specs.declared.Answer.{Answer}
use Rattle.base.proofs.TestLaws.{by_test}
use Rattle.base.proofs.AnswerLaws.{or_else_pass, or_else_stop}
use Rattle.sheet.specs.Sheet.{PlanningSheet, sheet_of}
use Rattle.checking.specs.Refusals.{checked}
use Rattle.checking.proofs.RangeLaws.{checked_number_le}
use Rattle.choice.specs.Running.{no_total}
use Rattle.chain.specs.Counting.{arcs_offered}
use Rattle.chain.specs.PlanBytes.{plan_length}
use Rattle.tails.specs.Words.{words_needed, tail_words}
use Rattle.front.specs.Planned.{planned}
use Rattle.planning.specs.Planning.{found, planning, plan_with, plan_answer, words_touched, plan_after, plan_written, words_after, count_with}

module _ (p : PlanningSheet) (plan : List ℕ) where
  -- what is answered, and what the plan buffer then holds
  abbrev pub SheetOutcome : Answer → (plan' : List ℕ) → Type 0
  SheetOutcome a plan' = (a ≡ planning p (length plan)) × (plan' ≡ plan_written p plan)

  pub planning_none : (planned p).total ≡ no_total → SheetOutcome (refused 11 3) plan
  unfolding planning plan_written
  planning_none none = let t = eq-eqb (planned p).total no_total none in (rw t, rw t)

  module _ (there : (planned p).total ≡ no_total → ⊥) where
    pub planning_short : length plan < plan_length (found p) → SheetOutcome (refused 12 3) plan
    unfolding planning plan_written
    planning_short l =
        let t = ne_eqb (planned p).total no_total there in
        let u = lt-ltb (length plan) (plan_length (found p)) l in
        (rw (t, u), rw (t, u))

    pub planning_fits :
        plan_length (found p) ≤ length plan → SheetOutcome (accepted (planned p).total) (plan_with p plan)
    unfolding planning plan_written
    planning_fits l =
        let t = ne_eqb (planned p).total no_total there in
        let u = le-ltb (length plan) (plan_length (found p)) l in
        (rw (t, u), rw (t, u))

-- 0, 11 or 12: the words are written
planning_touches : (p : PlanningSheet) (room : ℕ) → words_touched (planning p room).number ≡ true
unfolding planning
planning_touches p room =
    by_test (eqb (planned p).total no_total) (λ t. rw t)
    (λ t. by_test (ltb room (plan_length (found p))) (λ u. rw (t, u)) (λ u. rw (t, u)))

-- unless it is one of these they are not
not_touched : (number : ℕ) → (number ≡ 0 → ⊥) → (number ≡ 11 → ⊥) → (number ≡ 12 → ⊥) → words_touched number ≡ false
not_touched number zero eleven twelve = rw (ne_eqb number 0 zero, ne_eqb number 11 eleven, ne_eqb number 12 twelve)

module _ (s plan words : List ℕ) where
  -- what a whole call answers, and what its buffers then hold
  abbrev pub Outcome : Answer → (plan' words' : List ℕ) → Type 0
  Outcome a plan' words' = (a ≡ plan_answer s plan words) × (plan' ≡ plan_after s plan words) × (words' ≡ words_after s plan words)

  -- unless the number is 0, 11 or 12 both are left
  outcome_left :
      (a : Answer) → a ≡ plan_answer s plan words → (a.number ≡ 0 → ⊥) → (a.number ≡ 11 → ⊥) → (a.number ≡ 12 → ⊥) → Outcome a plan words
  unfolding plan_after words_after
  outcome_left a e zero eleven twelve =
      (e, rw (← e, ne_eqb a.number 0 zero), rw (← e, not_touched a.number zero eleven twelve))

  pub plan_refused : (a : Answer) → a ≡ checked s → (a.number ≡ 0 → ⊥) → Outcome a plan words
  unfolding plan_answer
  plan_refused a e h =
      let some : (checked s).number ≡ 0 → ⊥ = rw e at h in
      let few = checked_number_le s in
      outcome_left a (e ∙ sym (or_else_stop (checked s) _ some)) h (rw e (λ z. omega arith)) (rw e (λ z. omega arith))

  module _ (passed : (checked s).number ≡ 0) where
    pub plan_few : length words < words_needed → Outcome (refused 10 3) plan words
    unfolding plan_answer
    plan_few l =
        let u = lt-leb words_needed (length words) l in
        outcome_left (refused 10 3) (sym (or_else_pass (checked s) _ passed ∙ rw u)) (λ z. omega arith) (λ z. omega arith) (λ z. omega arith)

    module _ (enough : words_needed ≤ length words) where
      planning-answered : planning (sheet_of s) (length plan) ≡ plan_answer s plan words
      unfolding plan_answer
      planning-answered = sym (or_else_pass (checked s) _ passed ∙ rw (le-leb words_needed (length words) enough))

      pub words_lent : words_after s plan words ≡ tail_words (sheet_of s) words
      unfolding words_after
      words_lent = rw (← planning-answered, planning_touches (sheet_of s) (length plan))

      pub plan_on :
          (a : Answer) (plan' words' : List ℕ)
          → a ≡ planning (sheet_of s) (length plan) → plan' ≡ plan_written (sheet_of s) plan → words' ≡ tail_words (sheet_of s) words
          → Outcome a plan' words'
      unfolding plan_written plan_after
      plan_on a plan' words' answer written lent =
          (answer ∙ planning-answered, written ∙ rw planning-answered, lent ∙ sym words_lent)

-- nothing of the words enters a plan: of two lists that are long enough the answer and the plan are the same
pub plan_by_length :
    (s plan words words' : List ℕ) → words_needed ≤ length words → words_needed ≤ length words'
    → (plan_answer s plan words ≡ plan_answer s plan words') × (plan_after s plan words ≡ plan_after s plan words')
unfolding plan_answer plan_after
plan_by_length s plan words words' enough enough' =
    let t = le-leb words_needed (length words) enough in
    let u = le-leb words_needed (length words') enough' in
    (rw (t, u), rw (t, u))

-- with an accepted plan the arcs that the sheet offers, with a refusal none
module _ (a : Answer) (p : PlanningSheet) where
  pub count_accepted : a.number ≡ 0 → count_with a p ≡ arcs_offered p
  count_accepted e = rw (eq-eqb a.number 0 e)

  pub count_refused : (a.number ≡ 0 → ⊥) → count_with a p ≡ 0
  count_refused h = rw (ne_eqb a.number 0 h)
