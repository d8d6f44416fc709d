-- Laws of `first_below`, the first refusal of several answers. In order:
--     first_zero, first_suc      of none, and of one more
--     first_found      a refusal with none before it
--     first_iff      there is none exactly when no answer is one
--     first_all      what holds of every answer holds of the first refusal
-- Those of two answers are in base proofs/AnswerLaws. Assumes nothing.
use Prim.Native.Nat.{ℕ, zero, suc, ◌+◌, ◌<◌}
use mathlib.Core.Path.{◌≡◌, refl}
use mathlib.Core.Logic.Iff
use mathlib.Core.Logic.{◌↔◌}
use native.Mathlib.Omega.{arith}
use native.Mathlib.Nat.{not-suc-le-zero}
use native.Mathlib.Numerals.{add-one}
use native.Mathlib.Decide.{le_ind}
use lib.Dec.{eqb}
use borrow.Author.Tests.{eqb-true, eqb-false}
use Rattle.base.specs.Answer.{accepted}
use Rattle.base.specs.declared.Answer.{Answer}
use Rattle.base.proofs.TestLaws.{by_test}
use Rattle.base.proofs.AnswerLaws.{or_else_stop, or_else_iff, or_else_all}
use Rattle.checking.specs.Refusals.{first_below}

pub first_zero : (f : ℕ → Answer) → first_below 0 f ≡ accepted 0
unfolding first_below
first_zero f = refl

pub first_suc : (n : ℕ) (f : ℕ → Answer) → first_below n f ≡ accepted 0 → first_below (n + 1) f ≡ f n
unfolding first_below
first_suc n f e = rw (add-one, first_below, e)

pub first_found : (n m : ℕ) (f : ℕ → Answer) → n < m → first_below n f ≡ accepted 0 → ((f n).number ≡ 0 → ⊥) → first_below m f ≡ f n
unfolding first_below
first_found n m f h e q =
    le_ind (λ (k : ℕ). first_below k f ≡ f n) (rw e) (λ k h ih. rw ih (or_else_stop (f n) (f k) q)) m h

pub first_iff : (n : ℕ) (f : ℕ → Answer) → ((first_below n f).number ≡ 0) ↔ ((k : ℕ) → k < n → (f k).number ≡ 0)
unfolding first_below
first_iff zero f = (λ e k h. absurd (not-suc-le-zero h), λ h. refl)
first_iff (suc n) f =
    Iff.trans (or_else_iff (first_below n f) (f n)) (
      λ h k l. by_test (eqb k n)
          (λ t. rw (eqb-true k n t) h.1)
          (λ t. let d = eqb-false k n t in (first_iff n f).0 h.0 k (omega arith)),
      λ h. ((first_iff n f).1 (λ k l. h k (omega arith)), h n (omega arith)),
    )

pub first_all :
    (P : Answer → Type 0) (n : ℕ) (f : ℕ → Answer) → P (accepted 0) → ((k : ℕ) → k < n → P (f k)) → P (first_below n f)
unfolding first_below
first_all P zero f a h = a
first_all P (suc n) f a h = or_else_all P (first_below n f) (f n) (first_all P n f a (λ k l. h k (omega arith))) (h n (omega arith))
