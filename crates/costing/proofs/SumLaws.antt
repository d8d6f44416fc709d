-- Sums of a figure over payments, for every figure: an arc paid year by year pays the same (`walked-paid`), and what it pays when it ends
-- (`closing-paid`, `closing_none`, `closing_free`). Assumes nothing.
use Prim.Native.Nat.{ℕ, zero, suc, ◌+◌, ◌<◌}
use mathlib.Core.Path.{◌≡◌, refl, ap, sym, ◌∙◌}
use mathlib.Core.List.{List, [], ◌∷◌, ◌++◌}
use mathlib.Core.Bool.{Bool, true, false, cond}
use native.Mathlib.Nat.{add-zero}
use native.Mathlib.Omega.{arith}
use lib.Dec.{ltb, eqb}
use borrow.Author.Tests.{lt-ltb, le-ltb, ne_eqb, ltb-true, ltb-false, eqb-true, eqb-false}
use Rattle.base.specs.Lists.{sum_of}
use Rattle.base.proofs.TestLaws.{by_test}
use Rattle.base.proofs.ListsLaws.{sum_of-append, sum_of-cons, sum_of_one, sum_of_two}
use Rattle.steps.specs.Payment.{Payment, once}
use Rattle.costing.specs.Arc.{investment, maintenance, electricity, age_of, overhaul, for_each, paid_if, overhauls_below, paid, removal, closes, closing}
use Rattle.costing.specs.Walk.{overhauls_at, added, walked}
use Rattle.costing.specs.declared.Kept.{Kept}

module _ (φ : Payment → ℕ) where
  pub for_each-zero : (f : ℕ → List Payment) → sum_of φ (for_each 0 f) ≡ 0
  unfolding for_each sum_of
  for_each-zero f = refl

  pub for_each-suc : (n : ℕ) (f : ℕ → List Payment) → sum_of φ (for_each (suc n) f) ≡ sum_of φ (for_each n f) + sum_of φ (f n)
  unfolding for_each
  for_each-suc n f = sum_of-append φ (for_each n f) (f n)

  -- sums of parts that add up, part by part
  for_each-add :
      (n : ℕ) (f g h : ℕ → List Payment) → ((j : ℕ) → sum_of φ (f j) ≡ sum_of φ (g j) + sum_of φ (h j))
      → sum_of φ (for_each n f) ≡ sum_of φ (for_each n g) + sum_of φ (for_each n h)
  for_each-add zero f g h e = rw (for_each-zero f, for_each-zero g, for_each-zero h) refl
  for_each-add (suc n) f g h e =
      rw (for_each-suc n f, for_each-suc n g, for_each-suc n h, for_each-add n f g h e, e n) (omega arith)

  pub for_each_none : (n : ℕ) (f : ℕ → List Payment) → ((j : ℕ) → j < n → sum_of φ (f j) ≡ 0) → sum_of φ (for_each n f) ≡ 0
  for_each_none zero f e = for_each-zero f
  for_each_none (suc n) f e = rw (for_each-suc n f, for_each_none n f (λ j l. e j (omega arith)), e n (omega arith)) refl

  pub paid_if-true : (p : Payment) → sum_of φ (paid_if true p) ≡ φ p
  unfolding paid_if
  paid_if-true p = sum_of_one φ p

  pub paid_if-false : (p : Payment) → sum_of φ (paid_if false p) ≡ 0
  unfolding paid_if sum_of
  paid_if-false p = refl

  pub paid_if-cond : (b : Bool) (p : Payment) → sum_of φ (paid_if b p) ≡ cond b (φ p) 0
  paid_if-cond true p = paid_if-true p
  paid_if-cond false p = paid_if-false p

  -- a removal that is paid, and none
  pub closing-paid :
      (a : Kept) (removed : Bool) (n T : ℕ) → closes a removed n T ≡ true → sum_of φ (closing a removed n T) ≡ φ (removal a (a.from + n))
  unfolding closing
  closing-paid a removed n T on = rw on (paid_if-true (removal a (a.from + n)))

  pub closing_none : (a : Kept) (removed : Bool) (n T : ℕ) → closes a removed n T ≡ false → sum_of φ (closing a removed n T) ≡ 0
  unfolding closing
  closing_none a removed n T off = rw off (paid_if-false (removal a (a.from + n)))

  -- a removal of 0 adds nothing, if the figure is 0 of every payment of amount 0: a sheet of version 1 has no other
  pub closing_free :
      ((grow u : ℕ) → φ (once 0 grow u) ≡ 0)
      → (a : Kept) → a.terms.removal.amount ≡ 0 → (removed : Bool) (n T : ℕ) → sum_of φ (closing a removed n T) ≡ 0
  closing_free nothing a none removed n T =
      by_test (closes a removed n T)
      (λ on.
      closing-paid a removed n T on
      ∙ (unfold removal in ap (λ (amount : ℕ). φ (once amount a.terms.removal.grow (a.from + n))) none ∙ nothing _ (a.from + n)))
      (λ off. closing_none a removed n T off)

  -- an age below n + 1 is below n or is n
  paid_if_next : (a n : ℕ) (p : Payment) → sum_of φ (paid_if (ltb a (suc n)) p) ≡ sum_of φ (paid_if (ltb a n) p) + sum_of φ (paid_if (eqb a n) p)
  paid_if_next a n p =
      by_test (ltb a n)
      (λ t. let l = ltb-true a n t in rw (lt-ltb a (suc n) (omega arith), t, ne_eqb a n (λ e. omega arith), paid_if-false p) (omega arith))
      (λ t.
      let m = ltb-false a n t in
      by_test (eqb a n)
      (λ u. let e = eqb-true a n u in rw (lt-ltb a (suc n) (omega arith), t, u, paid_if-false p) (omega arith))
      (λ u. let e = eqb-false a n u in rw (le-ltb a (suc n) (omega arith), t, u, paid_if-false p) (omega arith)))

  below_next : (a : Kept) (n : ℕ) → sum_of φ (overhauls_below a (suc n)) ≡ sum_of φ (overhauls_below a n) + sum_of φ (overhauls_at a n)
  unfolding overhauls_below overhauls_at
  below_next a n = for_each-add a.terms.overhauls.count _ _ _ (λ j. paid_if_next (age_of a j) n (overhaul a j))

  below-zero : (a : Kept) → sum_of φ (overhauls_below a 0) ≡ 0
  unfolding overhauls_below
  below-zero a = for_each_none a.terms.overhauls.count _ (λ j l. rw (le-ltb (age_of a j) 0 (omega arith)) (paid_if-false (overhaul a j)))

  pub added_total :
      (a : Kept) (n : ℕ) → sum_of φ (added a n) ≡ sum_of φ (overhauls_at a n) + φ (maintenance a (suc n)) + φ (electricity a (suc n))
  unfolding added
  added_total a n = rw (sum_of-append φ, sum_of_two φ) (omega arith)

  pub walked-zero : (a : Kept) → sum_of φ (walked a 0) ≡ φ (investment a)
  unfolding walked
  walked-zero a = rw (sum_of-cons φ, for_each-zero) (add-zero _)

  pub walked-suc : (a : Kept) (n : ℕ) → sum_of φ (walked a (suc n)) ≡ sum_of φ (walked a n) + sum_of φ (added a n)
  unfolding walked
  walked-suc a n =
      let first = sum_of-cons φ (investment a) in
      omega (arith, first (for_each (suc n) (added a)), first (for_each n (added a)), for_each-suc n (added a))

  -- the four parts of an arc
  abbrev pub parts : Kept → ℕ → ℕ
  parts a n =
      φ (investment a) + sum_of φ (overhauls_below a n)
      + sum_of φ (for_each n (λ k. maintenance a (suc k) ∷ [])) + sum_of φ (for_each n (λ k. electricity a (suc k) ∷ []))

  walked-parts : (a : Kept) (n : ℕ) → sum_of φ (walked a n) ≡ parts a n
  walked-parts a zero = rw (walked-zero, below-zero, for_each-zero, for_each-zero) (omega arith)
  walked-parts a (suc n) =
      rw (walked-suc, added_total, below_next, for_each-suc, for_each-suc, sum_of_one φ (maintenance a (suc n)), sum_of_one φ (electricity a (suc n)))
      (omega (arith, walked-parts a n))

  pub paid-zero : (a : Kept) → sum_of φ (paid a 0) ≡ 0
  unfolding paid sum_of
  paid-zero a = refl

  -- an arc of a year or more, part by part and year by year
  pub paid-parts : (a : Kept) (n : ℕ) → sum_of φ (paid a (suc n)) ≡ parts a (suc n)
  unfolding paid
  paid-parts a n =
      let o = overhauls_below a (suc n) in
      let m = for_each (suc n) (λ k. maintenance a (suc k) ∷ []) in
      let e = for_each (suc n) (λ k. electricity a (suc k) ∷ []) in
      rw (sum_of-cons φ, sum_of-append φ (o ++ m) e, sum_of-append φ o m) (omega arith)

  pub walked-paid : (a : Kept) (n : ℕ) → sum_of φ (paid a (suc n)) ≡ sum_of φ (walked a (suc n))
  walked-paid a n = paid-parts a n ∙ sym (walked-parts a (suc n))
