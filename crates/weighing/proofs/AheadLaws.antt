-- Laws of `ahead_of`: what it is where there is no total and where there is one (`ahead_none`, `ahead_some`), with nothing more (`ahead_zero`); and what is
-- added to the total behind an end might as well be added to the cost of the arc to it (`weigh_ahead`). Assumes nothing.
use Prim.Native.Nat.{ℕ, ◌+◌}
use mathlib.Core.Path.{◌≡◌, sym, ◌∙◌}
use native.Mathlib.Nat.{add-zero}
use native.Mathlib.Omega.{arith}
use lib.Dec.{eqb}
use borrow.Author.Tests.{eqb-true, eqb-false, eq-eqb, ne_eqb}
use Rattle.base.proofs.TestLaws.{by_test}
use Rattle.choice.specs.Running.{no_total, weigh}
use Rattle.weighing.specs.Best.{numbers}
use Rattle.weighing.specs.Ahead.{ahead_of}
use Rattle.weighing.specs.declared.Best.{Best}

module _ (word : ℕ) where
  pub ahead_none : (more : ℕ) → word ≡ no_total → ahead_of word more ≡ no_total
  unfolding ahead_of
  ahead_none more none = rw (eq-eqb word no_total none)

  pub ahead_some : (more : ℕ) → (word ≡ no_total → ⊥) → ahead_of word more ≡ word + more
  unfolding ahead_of
  ahead_some more some = rw (ne_eqb word no_total some)

  pub ahead_zero : ahead_of word 0 ≡ word
  ahead_zero =
      by_test (eqb word no_total) (λ t. let none = eqb-true word no_total t in ahead_none 0 none ∙ sym none)
      (λ t. ahead_some 0 (eqb-false word no_total t) ∙ add-zero word)

  -- a sum that is not taken for no total
  pub weigh_ahead :
      (best : Best) (cost e more : ℕ) → ((word ≡ no_total → ⊥) → word + more ≡ no_total → ⊥)
      → weigh numbers best cost e (ahead_of word more) ≡ weigh numbers best (cost + more) e word
  unfolding weigh ahead_of
  weigh_ahead best cost e more sums =
      by_test (eqb word no_total) (λ t. rw t)
      (λ t.
      let same : cost + (word + more) ≡ cost + more + word = omega arith in
      rw (t, ne_eqb (word + more) no_total (sums (eqb-false word no_total t)), same))
