-- Laws of `sum_over`, over any figure. In order:
--     sum-zero, sum_next      no year, and one year more
--     sum_join      some years and then more
--     sum_one, sum_first      one year, and the first year by itself
--     sum-each      a figure that is the same in all of them
--     sum-le      figures that are at most b
--     sum_same      figures that are equal in these years
--     sum_past      further years whose figure is 0
--     sum_until      two numbers of years, where the figure is 0 from the smaller on
-- and of how many years pass a test:
--     many_all      further years that all pass
--     many_within      years that lie among b years
--     where_le      figures of the years that pass, each at most b
-- Assumes nothing.
use Prim.Native.Nat.{ℕ, zero, suc, ◌+◌, ◌*◌, ◌-◌, ◌≤◌, ◌<◌, min}
use mathlib.Core.Path.{◌≡◌, refl, ap, sym, ◌∙◌}
use mathlib.Core.Bool.{Bool, true, cond}
use native.Mathlib.Nat.{add-zero, zero-add, add-suc}
use native.Mathlib.Numerals.{add-one}
use native.Mathlib.Omega.{arith}
use Rattle.base.specs.Tally.{sum_over, how_many}
use Rattle.base.proofs.TestLaws.{by_test}

module _ (f : ℕ → ℕ) (s : ℕ) where
  pub sum-zero : sum_over f s 0 ≡ 0
  unfolding sum_over
  sum-zero = refl

  pub sum_next : (k : ℕ) → sum_over f s (k + 1) ≡ sum_over f s k + f (s + k)
  unfolding sum_over
  sum_next k = rw (add-one k)

  pub sum_join : (k d : ℕ) → sum_over f s (k + d) ≡ sum_over f s k + sum_over f (s + k) d
  unfolding sum_over
  sum_join k zero = rw (add-zero k) (sym (add-zero (sum_over f s k)))
  sum_join k (suc d) =
      let at : s + (k + d) ≡ s + k + d = omega arith in
      rw (add-suc k d, sum_join k d, at) (omega arith)

  pub sum_one : sum_over f s 1 ≡ f s
  unfolding sum_over
  sum_one = rw (add-zero s) (zero-add (f s))

  pub sum_first : (k : ℕ) → sum_over f s (suc k) ≡ f s + sum_over f (suc s) k
  sum_first k =
      let all : suc k ≡ 1 + k = omega arith in
      rw (all, sum_join 1 k, sum_one, add-one s)

  pub sum-each : (c k : ℕ) → ((e : ℕ) → s ≤ e → e < s + k → f e ≡ c) → sum_over f s k ≡ k * c
  unfolding sum_over
  sum-each c zero each = omega arith
  sum-each c (suc k) each = rw (sum-each c k (λ e l m. each e l (omega arith)), each (s + k) (omega arith) (omega arith)) (omega arith)

  pub sum-le : (b k : ℕ) → ((e : ℕ) → s ≤ e → e < s + k → f e ≤ b) → sum_over f s k ≤ k * b
  unfolding sum_over
  sum-le b zero most = omega arith
  sum-le b (suc k) most =
      let before = sum-le b k (λ e l m. most e l (omega arith)) in
      let last = most (s + k) (omega arith) (omega arith) in
      omega arith

module _ (f g : ℕ → ℕ) (s : ℕ) where
  pub sum_same : (k : ℕ) → ((e : ℕ) → s ≤ e → e < s + k → f e ≡ g e) → sum_over f s k ≡ sum_over g s k
  unfolding sum_over
  sum_same zero same = refl
  sum_same (suc k) same = rw (sum_same k (λ e l m. same e l (omega arith)), same (s + k) (omega arith) (omega arith))

module _ (f : ℕ → ℕ) (s : ℕ) where
  pub sum_past : (k d : ℕ) → ((e : ℕ) → s + k ≤ e → e < s + (k + d) → f e ≡ 0) → sum_over f s (k + d) ≡ sum_over f s k
  sum_past k d none =
      let more = sum-each f (s + k) 0 d (λ e l m. none e l (omega arith)) in
      sum_join f s k d ∙ omega (arith, more)

  pub sum_until : (k m : ℕ) → ((e : ℕ) → s + min k m ≤ e → f e ≡ 0) → sum_over f s k ≡ sum_over f s m
  sum_until k m none =
      let least : (n : ℕ) → min k m ≤ n → sum_over f s n ≡ sum_over f s (min k m) =
      λ n l.
      let all : n ≡ min k m + (n - min k m) = omega arith in
      ap (sum_over f s) all ∙ sum_past (min k m) (n - min k m) (λ e low high. none e low) in
      least k (omega arith) ∙ sym (least m (omega arith))

module _ (test : ℕ → Bool) (s : ℕ) where
  pub many_all : (k d : ℕ) → ((e : ℕ) → s + k ≤ e → e < s + (k + d) → test e ≡ true) → how_many test s (k + d) ≡ how_many test s k + d
  many_all k d all =
      let more = sum-each (λ e. cond (test e) 1 0) (s + k) 1 d (λ e l m. rw (all e l (omega arith))) in
      sum_join (λ e. cond (test e) 1 0) s k d ∙ omega (arith, more)

  -- so far they lie below s + k too
  pub many_within : (first b : ℕ) → ((e : ℕ) → test e ≡ true → (first ≤ e) × (e < first + b)) → (k : ℕ) → how_many test s k ≤ min (s + k - first) b
  unfolding sum_over
  many_within first b among zero = omega arith
  many_within first b among (suc k) =
      let before = many_within first b among k in
      by_test (test (s + k)) (λ t. let here = among (s + k) t in rw t (omega (arith, here.0, here.1))) (λ t. rw t (omega arith))

  pub where_le :
      (f : ℕ → ℕ) (b k : ℕ) → ((e : ℕ) → test e ≡ true → f e ≤ b) → sum_over (λ e. cond (test e) (f e) 0) s k ≤ b * how_many test s k
  unfolding sum_over
  where_le f b zero most = omega arith
  where_le f b (suc k) most =
      let before = where_le f b k most in
      by_test (test (s + k)) (λ t. let here = most (s + k) t in rw t (omega arith)) (λ t. rw t (omega arith))
