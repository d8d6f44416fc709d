-- A call that has one rule of its own behind an earlier answer: the earlier refusal, then its own number where the rule does not hold, else a
-- total. Over any earlier answer. In order:
--     call-refused, call_stopped, call_passed      the three ways in which it ends
--     call-iff, call-accepted      when it accepts, and what it then answers
--     call_option, call_total, call_number_le, call_packs      the option, the total with a refusal, and the range of its answer
-- Assumes nothing.
use Prim.Native.Nat.{ℕ, ◌≤◌, ◌<◌}
use mathlib.Core.Path.{◌≡◌, refl, sym, ◌∙◌}
use mathlib.Core.Bool.{Bool, true, false, cond, false≢true}
use mathlib.Core.Logic.{◌↔◌}
use native.Mathlib.Omega.{arith}
use lib.Dec.{eqb}
use borrow.Author.Tests.{eqb-true, eqb-false}
use Rattle.base.specs.Answer.{accepted, refused, ◌or_else◌, total_bound, Packs}
use Rattle.base.specs.declared.Answer.{Answer}
use Rattle.base.proofs.TestLaws.{by_test}
use Rattle.base.proofs.AnswerLaws.{or_else_pass, or_else_stop, or_else_iff, or_else_all, accepted_packs, refused_packs}

-- what its own rule answers, and what the call answers
abbrev own : (rule : Bool) (number total : ℕ) → Answer
own rule number total = cond rule (accepted total) (refused number 3)

abbrev call : (first : Answer) (rule : Bool) (number total : ℕ) → Answer
call first rule number total = first or_else own rule number total

own-iff : (rule : Bool) (number total : ℕ) → 0 < number → ((own rule number total).number ≡ 0) ↔ (rule ≡ true)
own-iff true number total some = (λ e. refl, λ e. refl)
own-iff false number total some = (λ e. absurd (omega arith), λ e. absurd (false≢true e))

own_number_le : (rule : Bool) (number total most : ℕ) → number ≤ most → (own rule number total).number ≤ most
own_number_le true number total most h = omega arith
own_number_le false number total most h = h

own_option : (rule : Bool) (number total : ℕ) → (own rule number total).option ≡ 3
own_option true number total = refl
own_option false number total = refl

own_total : (rule : Bool) (number total : ℕ) → ((own rule number total).number ≡ 0 → ⊥) → (own rule number total).total ≡ 0
own_total true number total d = absurd (d refl)
own_total false number total d = refl

own_packs : (rule : Bool) (number total : ℕ) → number < 64 → (rule ≡ true → total < total_bound) → Packs (own rule number total)
own_packs true number total small h = accepted_packs total (h refl)
own_packs false number total small h = refused_packs number small 3 (omega arith)

module _ (first : Answer) (rule : Bool) (number total : ℕ) where
  pub call-refused : (a : Answer) → a ≡ first → (a.number ≡ 0 → ⊥) → a ≡ call first rule number total
  call-refused a e h = e ∙ sym (or_else_stop first _ (rw e at h))

  module _ (passed : first.number ≡ 0) where
    pub call_stopped : rule ≡ false → refused number 3 ≡ call first rule number total
    call_stopped e = sym (or_else_pass first _ passed ∙ rw e)

    pub call_passed : rule ≡ true → accepted total ≡ call first rule number total
    call_passed e = sym (or_else_pass first _ passed ∙ rw e)

  -- accepted exactly when the earlier answer accepts and the rule holds, whatever the two mean
  pub call-iff :
      {Passes Holds : Type 0} → 0 < number → (first.number ≡ 0) ↔ Passes → (rule ≡ true) ↔ Holds
      → ((call first rule number total).number ≡ 0) ↔ (Passes × Holds)
  call-iff some passes meaning =
      let both = or_else_iff first (own rule number total) in
      let own = own-iff rule number total some in (
        λ e. (passes.0 (both.0 e).0, meaning.0 (own.0 (both.0 e).1)),
        λ h. both.1 (passes.1 h.0, own.1 (meaning.1 h.1)),
      )

  -- with its total
  pub call-accepted : 0 < number → (call first rule number total).number ≡ 0 → call first rule number total ≡ accepted total
  call-accepted some e =
      let h = (or_else_iff first (own rule number total)).0 e in
      sym (call_passed h.0 ((own-iff rule number total some).0 h.1))

  -- its own answers have option 3, and with every refusal the total is 0 if that holds of the earlier one
  pub call_option : first.number ≡ 0 → (call first rule number total).option ≡ 3
  call_option passed = rw (or_else_pass first (own rule number total) passed) (own_option rule number total)

  pub call_total :
      ((first.number ≡ 0 → ⊥) → first.total ≡ 0) → ((call first rule number total).number ≡ 0 → ⊥) → (call first rule number total).total ≡ 0
  call_total h d =
      by_test (eqb first.number 0)
      (λ t. let own-d = rw t at d in rw t (own_total rule number total own-d))
      (λ t. rw t (h (eqb-false first.number 0 t)))

  pub call_number_le : (most : ℕ) → first.number ≤ most → number ≤ most → (call first rule number total).number ≤ most
  call_number_le most h l =
      or_else_all (λ (a : Answer). a.number ≤ most) first (own rule number total) h (own_number_le rule number total most l)

  pub call_packs :
      Packs first → number < 64 → (first.number ≡ 0 → rule ≡ true → total < total_bound) → Packs (call first rule number total)
  call_packs packs small h =
      by_test (eqb first.number 0)
      (λ t. rw t (own_packs rule number total small (h (eqb-true first.number 0 t))))
      (λ t. rw t packs)
