-- Laws of `Answer.antt`. In order:
--     unless_pass, unless_stop, unless_le      a row of the table by whether its rule holds, and its bound
--     unless_iff      a row gives 0 exactly when its rule holds and what comes after gives 0
--     answered_some, answered-iff      a number that is not 0 is a refusal
--     or_else_pass, or_else_stop, or_else_iff      the first refusal of two answers; there is none exactly when neither has one
--     answered_all, or_else_all      what holds of every part holds of the first refusal
--     accepted_packs, refused_packs      which answers a C form has room for
-- Assumes nothing.
use Prim.Native.Nat.{ℕ, zero, suc, ◌≤◌, ◌<◌}
use mathlib.Core.Path.{◌≡◌, refl}
use mathlib.Core.Bool.{Bool, true, false, false≢true}
use mathlib.Core.Logic.Iff
use mathlib.Core.Logic.{◌↔◌}
use native.Mathlib.Omega.{arith}
use lib.Dec.{eqb, eqb-suc-zero}
use borrow.Author.Tests.{eqb-true, eqb-false, eq-eqb, ne_eqb}
use Rattle.base.specs.Answer.{accepted, refused, answered, ◌unless◌else◌, ◌or_else◌, total_bound, Packs}
use Rattle.base.specs.declared.Answer.{Answer}
use Rattle.base.proofs.TestLaws.{by_test}

-- a row whose rule holds, and one whose rule does not
pub unless_pass : (n : ℕ) {rule : Bool} (next : ℕ) → rule ≡ true → (n unless rule else next) ≡ next
unfolding ◌unless◌else◌
unless_pass n next h = rw h

pub unless_stop : (n : ℕ) {rule : Bool} (next : ℕ) → rule ≡ false → (n unless rule else next) ≡ n
unfolding ◌unless◌else◌
unless_stop n next h = rw h

pub unless_le : (n : ℕ) (rule : Bool) (next m : ℕ) → n ≤ m → next ≤ m → (n unless rule else next) ≤ m
unfolding ◌unless◌else◌
unless_le n true next m h k = k
unless_le n false next m h k = h

pub unless_iff :
    {rule : Bool} {next : ℕ} {P Q : Type 0} (n : ℕ) → 0 < n → (rule ≡ true) ↔ P → (next ≡ 0) ↔ Q →
    ((n unless rule else next) ≡ 0) ↔ (P × Q)
unfolding ◌unless◌else◌
unless_iff {rule = true} n h p q = (λ e. (p.0 refl, q.0 e), λ k. q.1 k.1)
unless_iff {rule = false} n h p q = (λ e. absurd (omega arith), λ k. absurd (false≢true (p.1 k.0)))

pub answered_some : (n k : ℕ) → (n ≡ 0 → ⊥) → answered n k ≡ refused n k
answered_some n k h = rw (ne_eqb n 0 h)

pub answered-iff : (n k : ℕ) → ((answered n k).number ≡ 0) ↔ (n ≡ 0)
answered-iff zero k = Iff.rfl
answered-iff (suc n) k = rw (eqb-suc-zero n) Iff.rfl

pub or_else_pass : (a b : Answer) → a.number ≡ 0 → a or_else b ≡ b
or_else_pass a b e = rw (eq-eqb a.number 0 e)

pub or_else_stop : (a b : Answer) → (a.number ≡ 0 → ⊥) → a or_else b ≡ a
or_else_stop a b e = rw (ne_eqb a.number 0 e)

pub or_else_iff : (a b : Answer) → ((a or_else b).number ≡ 0) ↔ ((a.number ≡ 0) × (b.number ≡ 0))
or_else_iff a b =
    by_test (eqb a.number 0)
    (λ t. let z = eqb-true a.number 0 t in rw t (λ e. (z, e), λ h. h.1))
    (λ t. rw t (λ e. absurd (eqb-false a.number 0 t e), λ h. h.0))

-- what holds of an accepted answer and of a refusal holds of whatever is answered
module _ (P : Answer → Type 0) where
  pub answered_all : (n k : ℕ) → P (accepted 0) → ((n ≡ 0 → ⊥) → P (refused n k)) → P (answered n k)
  answered_all n k a r = by_test (eqb n 0) (λ t. rw t a) (λ t. rw t (r (eqb-false n 0 t)))

  pub or_else_all : (a b : Answer) → P a → P b → P (a or_else b)
  or_else_all a b p q = by_test (eqb a.number 0) (λ t. rw t q) (λ t. rw t p)

pub accepted_packs : (total : ℕ) → total < total_bound → Packs (accepted total)
accepted_packs total h = record { number = omega arith; option = omega arith; total = h }

pub refused_packs : (n : ℕ) → n < 64 → (k : ℕ) → k < 4 → Packs (refused n k)
refused_packs n h k l = record { number = h; option = l; total = omega arith }
