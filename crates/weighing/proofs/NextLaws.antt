-- The choice of an end by passing over those that are not better: before the shortest life none is offered (`next_first`), ends that are passed
-- change nothing (`next_stays`), and the one that is found is taken (`next_taken`), by the sum that the code reads (`sum_read`). Those that are
-- passed and the one that is taken are counted alike (`counted_first`, `counted_on`). Assumes nothing.
use Prim.Native.Nat.{ℕ, ◌+◌, ◌-◌, ◌^◌, ◌≤◌, ◌<◌}
use mathlib.Core.Path.{◌≡◌, refl, ap, sym, subst, ◌∙◌}
use mathlib.Core.Bool.{true, false, cond}
use mathlib.Core.List.{List}
use native.Mathlib.Nat.{zero-add}
use native.Mathlib.Omega.{arith}
use lib.ListN.{get_or}
use borrow.Author.Tests.{le-leb, lt-leb}
use Rattle.base.proofs.TallyLaws.{sum-each, many_all}
use Rattle.costing.specs.declared.Kept.{Kept}
use Rattle.choice.specs.Running.{no_total}
use Rattle.choice.proofs.RunningLaws.{weigh-take, over_zero, over_next, over_past, over_stays}
use Rattle.weighing.specs.Best.{numbers}
use Rattle.weighing.specs.Ends.{may_end, kept_cost, best_after, weighed_after, CostsTo, word_of, WordsBehind, CostsKnown, AtMost, NextEnd}
use Rattle.weighing.specs.declared.Best.{Best}
use Rattle.weighing.proofs.EndLaws.{end_test, end_cost, end_fits}

module _ (a : Kept) where
  -- what the code adds: the cost of the arc of n + 1 years and the word behind its end
  module _ (words costs : List ℕ) (T n : ℕ) (lives : n < a.terms.longest) (inside : a.from + n < T) where
    pub sum_read :
        (end : ℕ) → end ≡ a.from + (n + 1) → CostsTo a T costs
        → get_or costs n 0 + get_or words end 0 ≡ kept_cost a (a.from + (n + 1)) + word_of words (a.from + (n + 1))
    sum_read end at known =
        let cost = end_cost a n (known n lives inside) in
        let word = ap (word_of words) at in
        λ i. cost i + word i

    -- it leaves room, where there is a word
    pub sum_fits :
        (end : ℕ) → end ≡ a.from + (n + 1) → CostsKnown a T costs → WordsBehind a T words → (get_or words end 0 ≡ no_total → ⊥)
        → get_or costs n 0 + get_or words end 0 < 2 ^ 64
    sum_fits end at known behind some =
        end_fits a known.fits T n words behind (omega arith) (end_cost a n (known.known n lives inside)) at some

  end_too_early : (e : ℕ) → e - a.from < a.terms.shortest → may_end a e ≡ false
  end_too_early e l = rw (lt-leb a.terms.shortest (e - a.from) l)

  -- from the shortest to the longest life
  end_may : (e : ℕ) → a.terms.shortest ≤ e - a.from → e - a.from ≤ a.terms.longest → may_end a e ≡ true
  end_may e old lives = rw (le-leb a.terms.shortest (e - a.from) old, le-leb (e - a.from) a.terms.longest lives)

  -- before the shortest life none is counted, and from there to the longest each
  pub counted_first : (first : ℕ) → first ≤ a.terms.shortest - 1 → weighed_after a first ≡ 0
  counted_first first l =
      omega (arith, sum-each (λ e. cond (may_end a e) 1 0) (a.from + 1) 0 first (λ e m u. rw (end_too_early e (omega arith))))

  pub counted_on :
      (k n : ℕ) → k ≤ n → (k < n → a.terms.shortest ≤ k + 1) → n ≤ a.terms.longest → weighed_after a n ≡ weighed_after a k + (n - k)
  counted_on k n later old lives =
      let all : n ≡ k + (n - k) = omega arith in
      ap (weighed_after a) all
      ∙ many_all (may_end a) (a.from + 1) k (n - k) (λ e l m. end_may e (omega (arith, old (omega arith))) (omega arith))

  module _ (words : ℕ → ℕ) (best : Best) where
    pub next_first : (first : ℕ) → first ≤ a.terms.shortest - 1 → best ≡ best_after a words best first
    next_first first l =
        sym (over_zero numbers (may_end a) (kept_cost a) words (a.from + 1) best)
        ∙ sym (over_past numbers (may_end a) (kept_cost a) words (a.from + 1) best 0 first (λ e m u. end_too_early e (omega arith)))
        ∙ ap (best_after a words best) (zero-add first)

    pub next_stays :
        (so_far : Best) (first years r : ℕ) → so_far ≡ best_after a words best first → NextEnd a words first years so_far.total r
        → so_far ≡ best_after a words best r
    next_stays so_far first years r before next =
        let all : first + (r - first) ≡ r = omega (arith, next.from) in
        over_stays numbers (may_end a) (kept_cost a) words (a.from + 1) best so_far first (r - first) before
        (λ e l u.
        let n = e - (a.from + 1) in
        let at : a.from + (n + 1) ≡ e = omega arith in
        subst (λ (e : ℕ). (words e ≡ no_total → ⊥) → so_far.total < kept_cost a e + words e) at
        (next.passed n (omega arith) (omega (arith, next.from))))
        ∙ ap (best_after a words best) all

    -- the end that was found is taken, by that sum
    pub next_taken :
        (so_far : Best) (n : ℕ) → so_far ≡ best_after a words best n → AtMost a words so_far.total n → a.terms.shortest ≤ n + 1
        → n < a.terms.longest → {sum end : ℕ} → end ≡ a.from + (n + 1)
        → sum ≡ kept_cost a (a.from + (n + 1)) + words (a.from + (n + 1)) → record { total = sum; end = end } ≡ best_after a words best (n + 1)
    next_taken so_far n before least old lives at both =
        let e = a.from + (n + 1) in
        let on = sym (le-leb a.terms.shortest (n + 1) old) ∙ end_test a n refl lives in
        (λ i. record { total = both i; end = at i })
        ∙ sym (weigh-take numbers so_far (kept_cost a e) e (words e) least.0 least.1)
        ∙ over_next numbers (may_end a) (kept_cost a) words (a.from + 1) best n e {flag = true} before (omega arith) on refl refl
