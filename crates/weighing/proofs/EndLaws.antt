-- The ends of an option that is kept, on its terms: which the code weighs (`end_test`, `end_next`, `ends_all`), how many (`ends_counted`, `end_counted`,
-- `counted_le`), what the arc to an end costs (`end_cost`, `end_paid`), and that its sum with a word leaves room (`end_room`, `end_fits`). Assumes nothing.
use Prim.Native.Nat.{ℕ, ◌+◌, ◌-◌, ◌*◌, ◌^◌, ◌≤◌, ◌<◌, min}
use mathlib.Core.Path.{◌≡◌, refl, ap, sym, ◌∙◌}
use mathlib.Core.Bool.{Bool, true, false, cond, and-true, and-false}
use mathlib.Core.List.{List}
use native.Mathlib.Omega.{arith}
use lib.Dec.{leb}
use lib.ListN.{get_or}
use borrow.Author.Tests.{le-leb, lt-leb}
use Rattle.base.proofs.TallyLaws.{sum_next, sum_past, sum-le}
use Rattle.steps.specs.Fit.{largest_payment}
use Rattle.costing.specs.Arc.{paid, worth}
use Rattle.costing.specs.Fit.{yearly, KeptFits}
use Rattle.costing.specs.Walk.{walk_at}
use Rattle.costing.specs.declared.Kept.{Kept}
use Rattle.costing.specs.declared.Walk.{Walk}
use Rattle.costing.proofs.SizeLaws.{paid-le}
use Rattle.costing.proofs.WalkLaws.{walk-paid}
use Rattle.choice.specs.Running.{no_total, weigh}
use Rattle.choice.proofs.RunningLaws.{over_next, over_past}
use Rattle.weighing.specs.Best.{numbers}
use Rattle.weighing.specs.Ends.{may_end, kept_cost, best_after, best_to, weighed_after, weighed_to, word_of, WordsBehind}
use Rattle.weighing.specs.declared.Best.{Best}

one_le : (flag : Bool) → cond flag 1 0 ≤ 1
one_le true = omega arith
one_le false = omega arith

module _ (a : Kept) where
  -- after n + 1 years, not more than the longest life, only the shortest is asked
  pub end_test :
      (n : ℕ) {shortest : ℕ} → shortest ≡ a.terms.shortest → n < a.terms.longest → leb shortest (n + 1) ≡ may_end a (a.from + (n + 1))
  end_test n e l =
      let years : a.from + (n + 1) - a.from ≡ n + 1 = omega arith in
      rw (e, years, le-leb (n + 1) a.terms.longest (omega arith)) (sym (and-true (leb a.terms.shortest (n + 1))))

  -- what the arc of n + 1 years costs
  pub end_cost : (n : ℕ) {v : ℕ} → v ≡ worth a (paid a (n + 1)) → v ≡ kept_cost a (a.from + (n + 1))
  end_cost n e = e ∙ ap (λ (n : ℕ). worth a (paid a n)) (omega arith)

  -- a walk of n + 1 years has paid it
  pub end_paid : (w : Walk) (n : ℕ) → w ≡ walk_at a (n + 1) → w.cost.0 ≡ kept_cost a (a.from + (n + 1))
  end_paid w n stands = end_cost n (walk-paid a w (n + 1) stands (omega arith))

  -- one end more is weighed
  pub end_next :
      (words : ℕ → ℕ) (best so_far : Best) (n : ℕ) → so_far ≡ best_after a words best n → n < a.terms.longest → {cost end word : ℕ}
      → end ≡ a.from + (n + 1) → cost ≡ kept_cost a (a.from + (n + 1)) → word ≡ words end
      → cond (leb a.terms.shortest (n + 1)) (weigh numbers so_far cost end word) so_far ≡ best_after a words best (n + 1)
  end_next words best so_far n before lives {cost} {end} {word} at paid there =
      over_next numbers (may_end a) (kept_cost a) words (a.from + 1) best n end before (omega arith)
      (end_test n refl lives ∙ ap (may_end a) (sym at)) (paid ∙ ap (kept_cost a) (sym at)) there

  -- an end later than the longest life is not offered
  end_past : (e : ℕ) → a.terms.longest < e - a.from → may_end a e ≡ false
  end_past e l = rw (lt-leb (e - a.from) a.terms.longest l) (and-false (leb a.terms.shortest (e - a.from)))

  -- with the ends up to the longest life or the horizon, all are weighed
  pub ends_all :
      (words : ℕ → ℕ) (best : Best) (T n : ℕ) → n ≡ min a.terms.longest (T - a.from) → a.from ≤ T
      → best_after a words best n ≡ best_to a T words best
  ends_all words best T n top early =
      let all : n + (T - a.from - n) ≡ T - a.from = omega arith in
      sym (over_past numbers (may_end a) (kept_cost a) words (a.from + 1) best n (T - a.from - n) (λ e l m. end_past e (omega arith)))
      ∙ ap (best_after a words best) all

  -- and all are counted
  pub ends_counted : (T n : ℕ) → n ≡ min a.terms.longest (T - a.from) → a.from ≤ T → weighed_after a n ≡ weighed_to a T
  ends_counted T n top early =
      let all : n + (T - a.from - n) ≡ T - a.from = omega arith in
      sym (sum_past (λ e. cond (may_end a e) 1 0) (a.from + 1) n (T - a.from - n) (λ e l m. rw (end_past e (omega arith))))
      ∙ ap (weighed_after a) all

  -- one end more is counted if it may be one
  pub end_counted :
      (n : ℕ) {so_far : ℕ} {flag : Bool} → so_far ≡ weighed_after a n → flag ≡ may_end a (a.from + (n + 1)) → so_far + cond flag 1 0 ≡ weighed_after a (n + 1)
  end_counted n before on =
      let at : a.from + (n + 1) ≡ a.from + 1 + n = omega arith in
      rw (before, on, at) (sym (sum_next (λ e. cond (may_end a e) 1 0) (a.from + 1) n))

  -- at most one a year
  pub counted_le : (n : ℕ) → weighed_after a n ≤ n
  counted_le n = omega (arith, sum-le (λ e. cond (may_end a e) 1 0) (a.from + 1) 1 n (λ e l m. one_le (may_end a e)))

  -- the cost of an arc and a word behind it leave room
  pub end_room :
      KeptFits a → (T e : ℕ) {word : ℕ} → T ≤ 300 → a.from < e → e ≤ T → word ≤ (T - e) * yearly + largest_payment
      → kept_cost a e + word ≤ (T - a.from) * yearly
  end_room h T e short late inside fits =
      let paid = paid-le a h (e - a.from) (omega arith) in
      omega arith

  -- so their sum is a word
  pub end_fits :
      KeptFits a → (T n : ℕ) (words : List ℕ) → WordsBehind a T words → a.from + (n + 1) ≤ T → {cost end : ℕ} → cost ≡ kept_cost a (a.from + (n + 1))
      → end ≡ a.from + (n + 1) → (get_or words end 0 ≡ no_total → ⊥) → cost + get_or words end 0 < 2 ^ 64
  end_fits h T n words behind inside paid at some =
      let e = a.from + (n + 1) in
      let word = ap (word_of words) at in
      let fits = behind.fits e (omega arith) inside (λ (q : word_of words e ≡ no_total). some (word ∙ q)) in
      let room = end_room h T e behind.far (omega arith) inside fits in
      omega (arith, paid, word, room, behind.far)
