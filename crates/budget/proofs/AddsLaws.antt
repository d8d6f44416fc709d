-- The payments of a chain: what they cost (`payments-spent`), by which year they fall (`chain_by`), and that what falls in the years 0 to T is all
-- of it, so that the words of a feasible chain add up to its rounded total (`units-add`). Assumes nothing.
use Prim.Native.Nat.{ℕ, zero, suc, ◌+◌, ◌≤◌, ◌<◌}
use mathlib.Core.Path.{◌≡◌, refl, ◌∙◌}
use mathlib.Core.List.{List, [], ◌∷◌}
use native.Mathlib.Omega.{arith}
use borrow.Author.Tests.{eq-eqb, ne_eqb}
use Rattle.base.specs.Lists.{Every, sum_of, listed}
use Rattle.base.proofs.ListsLaws.{every_map, every_append, sum_of-append}
use Rattle.sheet.specs.Sheet.{PlanningSheet}
use Rattle.sheet.specs.Parsed.{parsed}
use Rattle.checking.specs.Fit.{Fit}
use Rattle.steps.specs.Payment.{Payment, year, rounded}
use Rattle.steps.specs.Fit.{Sound}
use Rattle.costing.specs.Arc.{arc_of, payments, cost}
use Rattle.costing.proofs.ErrorOfArc.{payments_sound}
use Rattle.costing.proofs.SheetArcLaws.{arc_fits}
use Rattle.chain.specs.Chain.{Activity, Chain, OffersActivity, activities, arcs_of, arcs, spent, rounded_total, Feasible}
use Rattle.spreading.specs.Fallen.{in_only, falling, fallen}
use Rattle.budget.specs.Budget.{payments_of, units_in, units_of}

-- the sum of words
abbrev pub sum : List ℕ → ℕ
sum l = sum_of (λ (word : ℕ). word) l

-- f 0 to f (n − 1) that are all 0, of which only f k is not, and that are sums
sum_none : (n : ℕ) (f : ℕ → ℕ) → ((j : ℕ) → f j ≡ 0) → sum (listed n f) ≡ 0
unfolding sum_of
sum_none zero f h = refl
sum_none (suc n) f h = omega (arith, h 0, sum_none n (λ j. f (suc j)) (λ j. h (suc j)))

sum_one : (n k : ℕ) (f : ℕ → ℕ) → k < n → ((j : ℕ) → (k ≡ j → ⊥) → f j ≡ 0) → sum (listed n f) ≡ f k
unfolding sum_of
sum_one zero k f l h = absurd (omega arith)
sum_one (suc n) zero f l h = omega (arith, sum_none n (λ j. f (suc j)) (λ j. h (suc j) (λ e. omega arith)))
sum_one (suc n) (suc k) f l h =
    omega (arith, h 0 (λ e. omega arith), sum_one n k (λ j. f (suc j)) (omega arith) (λ j d. h (suc j) (λ e. d (omega arith))))

sum-add : (n : ℕ) (f g : ℕ → ℕ) → sum (listed n (λ y. f y + g y)) ≡ sum (listed n f) + sum (listed n g)
unfolding sum_of
sum-add zero f g = refl
sum-add (suc n) f g = omega (arith, sum-add n (λ j. f (suc j)) (λ j. g (suc j)))

-- what falls in the years before n is all, if every payment falls before n
fallen_adds : (φ : Payment → ℕ) (n : ℕ) (qs : List Payment) → Every (λ q. year q < n) qs → sum (listed n (λ y. fallen φ y qs)) ≡ sum_of φ qs
unfolding sum_of in_only
fallen_adds φ n [] h = sum_none n (λ y. 0) (λ j. refl)
fallen_adds φ n (q ∷ qs) h =
    sum-add n (λ y. falling φ y q) (λ y. fallen φ y qs)
    ∙ rw (
      sum_one n (year q) (λ y. falling φ y q) h.0 (λ j d. rw (ne_eqb (year q) j d)),
      eq-eqb (year q) (year q) refl,
      fallen_adds φ n qs h.1,
    )

module _ (p : PlanningSheet) where
  -- the payments of activities cost what the activities do
  payments-spent : (l : List Activity) → sum_of (rounded (1_000_000 + p.rate)) (payments_of (arcs_of p l)) ≡ spent p l
  unfolding payments_of arcs_of sum_of cost arc_of
  payments-spent [] = refl
  payments-spent (a ∷ l) =
      sum_of-append (rounded (1_000_000 + p.rate)) (payments (arc_of p a.option a.start a.end)) (payments_of (arcs_of p l))
      ∙ rw (payments-spent l)

  -- and fall by T
  payments_by : Fit (parsed p) → (l : List Activity) → Every (OffersActivity p) l → Every (λ q. year q ≤ p.horizon) (payments_of (arcs_of p l))
  unfolding payments_of arcs_of arc_of
  payments_by fit [] h = tt
  payments_by fit (a ∷ l) h =
      let arc = arc_of p a.option a.start a.end in
      let sound = payments_sound arc (arc_fits p a.option a.start a.end fit h.0.known h.0.forward h.0.inside) in
      every_append (λ q. year q ≤ p.horizon) (payments arc) (payments_of (arcs_of p l))
      (every_map (Sound p.horizon (1_000_000 + p.rate)) _ (λ q s. s.by) (payments arc) sound)
      (payments_by fit l h.1)

  module _ (fit : Fit (parsed p)) (c : Chain) (h : Feasible p c) where
    pub chain_by : Every (λ q. year q ≤ p.horizon) (payments_of (arcs p c))
    chain_by = payments_by fit (activities c) h.offered

    -- the words of the years 0 to T
    pub units-add : sum (units_of p c) ≡ rounded_total p c
    unfolding units_of units_in rounded_total
    units-add =
        fallen_adds (rounded (1_000_000 + p.rate)) (suc p.horizon) (payments_of (arcs p c))
        (every_map _ _ (λ q l. omega arith) (payments_of (arcs p c)) chain_by)
        ∙ payments-spent (activities c)
