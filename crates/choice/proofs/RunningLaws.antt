-- Laws of the running choice, whatever is kept of it: what `weigh` does in each of its cases (`weigh_none`, `weigh-take`, `weigh_keep`,
-- `weigh_stays`); and `over_ends`, which weighs no end (`over_zero`), one end more at the last end (`over_offered`, `over_passed`, `over_next`) or
-- at the first (`over_first`, `over_start`), is not changed by ends that are not offered (`over_past`) or not better (`over_stays`), and reads
-- only the ends that are offered (`over_same`). Of entries: it has taken one of them or is the choice that it began with (`over_taken`).
-- Assumes nothing.
use Prim.Native.Nat.{ℕ, zero, suc, ◌+◌, ◌≤◌, ◌<◌}
use mathlib.Core.Path.{◌≡◌, refl, sym, ◌∙◌}
use mathlib.Core.Bool.{Bool, true, false, cond, Bool-discrete, not-eq-not, false≢true}
use mathlib.Core.List.{◌∷◌}
use mathlib.Core.Logic.{◌⊎◌, inl, inr, ⊎_elim, by_cases}
use native.Mathlib.Nat.{add-zero, add-suc}
use native.Mathlib.Numerals.{add-one}
use native.Mathlib.Omega.{arith}
use lib.Dec.{leb, eqb}
use borrow.Author.Tests.{le-leb, lt-leb, eq-eqb, ne_eqb, eqb-true, eqb-false}
use Rattle.base.proofs.TestLaws.{by_test, cond_same, cond_keep}
use Rattle.choice.specs.Running.{Entry, no_total, Keeping, entries, weigh, over_ends}

module _ (K : Keeping) (best : K.Choice) (cost e : ℕ) (behind : K.Behind) where
  pub weigh_none : K.left behind ≡ no_total → weigh K best cost e behind ≡ best
  unfolding weigh
  weigh_none h = rw (eq-eqb (K.left behind) no_total h)

  pub weigh-take :
      (K.left behind ≡ no_total → ⊥) → cost + K.left behind ≤ K.total best
      → weigh K best cost e behind ≡ K.taken (cost + K.left behind) e behind
  unfolding weigh
  weigh-take n l = rw (ne_eqb (K.left behind) no_total n, le-leb (cost + K.left behind) (K.total best) l)

  pub weigh_keep : (K.left behind ≡ no_total → ⊥) → K.total best < cost + K.left behind → weigh K best cost e behind ≡ best
  unfolding weigh
  weigh_keep n l = rw (ne_eqb (K.left behind) no_total n, lt-leb (cost + K.left behind) (K.total best) l)

  -- an end that is dearer, or has no total behind it
  weigh_stays : ((K.left behind ≡ no_total → ⊥) → K.total best < cost + K.left behind) → weigh K best cost e behind ≡ best
  weigh_stays dear =
      by_test (eqb (K.left behind) no_total) (λ t. weigh_none (eqb-true (K.left behind) no_total t))
      (λ t. let some = eqb-false (K.left behind) no_total t in weigh_keep some (dear some))

module _ (K : Keeping) (offered : ℕ → Bool) (cost : ℕ → ℕ) (behind : ℕ → K.Behind) (s : ℕ) (best : K.Choice) where
  pub over_zero : over_ends K offered cost behind s best 0 ≡ best
  unfolding over_ends
  over_zero = refl

  pub over_offered :
      (k : ℕ) → offered (s + k) ≡ true
      → over_ends K offered cost behind s best (suc k)
      ≡ weigh K (over_ends K offered cost behind s best k) (cost (s + k)) (s + k) (behind (s + k))
  unfolding over_ends
  over_offered k h = rw h

  pub over_passed : (k : ℕ) → offered (s + k) ≡ false → over_ends K offered cost behind s best (suc k) ≡ over_ends K offered cost behind s best k
  unfolding over_ends
  over_passed k h = rw h

  -- one end more, by what the code has of it
  pub over_next :
      (k e : ℕ) {flag : Bool} {so_far : K.Choice} {c : ℕ} {v : K.Behind} → so_far ≡ over_ends K offered cost behind s best k → e ≡ s + k
      → flag ≡ offered e → c ≡ cost e → v ≡ behind e → cond flag (weigh K so_far c e v) so_far ≡ over_ends K offered cost behind s best (k + 1)
  unfolding over_ends
  over_next k e before at on paid word = rw (add-one k, before, on, paid, word, at)

  -- d ends more, none of which is offered
  pub over_past :
      (k d : ℕ) → ((e : ℕ) → s + k ≤ e → e < s + (k + d) → offered e ≡ false)
      → over_ends K offered cost behind s best (k + d) ≡ over_ends K offered cost behind s best k
  unfolding over_ends
  over_past k zero never = rw (add-zero k)
  over_past k (suc d) never =
      rw (add-suc k d, never (s + (k + d)) (omega arith) (omega arith)) (over_past k d (λ e l m. never e l (omega arith)))

  pub over_first :
      (k : ℕ) → over_ends K offered cost behind s best (suc k) ≡ over_ends K offered cost behind (suc s) (over_ends K offered cost behind s best 1) k
  unfolding over_ends
  over_first zero = refl
  over_first (suc k) = let e : s + suc k ≡ suc s + k = omega arith in rw (e, over_first k)

  pub over_start : (k : ℕ) → offered s ≡ false → over_ends K offered cost behind s best (suc k) ≡ over_ends K offered cost behind (suc s) best k
  unfolding over_ends
  over_start k h = rw (over_first k, over_passed 0 (rw (add-zero s) h))

-- d ends more, each of which is dearer or has no total behind it
module _ (K : Keeping) (offered : ℕ → Bool) (cost : ℕ → ℕ) (behind : ℕ → K.Behind) (s : ℕ) (best so_far : K.Choice) where
  pub over_stays :
      (k d : ℕ) → so_far ≡ over_ends K offered cost behind s best k
      → ((e : ℕ) → s + k ≤ e → e < s + (k + d) → (K.left (behind e) ≡ no_total → ⊥) → K.total so_far < cost e + K.left (behind e))
      → so_far ≡ over_ends K offered cost behind s best (k + d)
  unfolding over_ends
  over_stays k zero before dear = rw (add-zero k) before
  over_stays k (suc d) before dear =
      let e = s + (k + d) in
      let same = over_stays k d before (λ e l m. dear e l (omega arith)) in
      rw (add-suc k d, ← same) (cond_keep (offered e) (sym (weigh_stays K so_far (cost e) e (behind e) (dear e (omega arith) (omega arith)))))

module _ (K : Keeping) (offered offered' : ℕ → Bool) (cost cost' : ℕ → ℕ) (g g' : ℕ → K.Behind) (s : ℕ) (best : K.Choice) where
  pub over_same :
      (k : ℕ) → ((e : ℕ) → s ≤ e → e < s + k → offered e ≡ offered' e)
      → ((e : ℕ) → s ≤ e → e < s + k → offered e ≡ true → cost e ≡ cost' e)
      → ((e : ℕ) → s ≤ e → e < s + k → offered e ≡ true → g e ≡ g' e) → over_ends K offered cost g s best k ≡ over_ends K offered' cost' g' s best k
  unfolding over_ends
  over_same zero o c b = refl
  over_same (suc k) o c b =
      let so_far = over_same k (λ e l h. o e l (omega arith)) (λ e l h. c e l (omega arith)) (λ e l h. b e l (omega arith)) in
      let low : s ≤ s + k = omega arith in
      let high : s + k < s + suc k = omega arith in
      rw (so_far, ← o (s + k) low high)
      (cond_same (offered (s + k)) _ (λ on. rw (c (s + k) low high on, b (s + k) low high on)))

-- one of two conditions keeps x
kept_or_taken : (b c : Bool) (x y : Entry) → (cond b x (cond c y x) ≡ x) ⊎ ((b ≡ false) × (cond b x (cond c y x) ≡ y))
kept_or_taken true c x y = inl refl
kept_or_taken false true x y = inr (refl, refl)
kept_or_taken false false x y = inl refl

module _ (offered : ℕ → Bool) (cost : ℕ → ℕ) (behind : ℕ → Entry) where
  -- an arc to year e, which is offered, and the entry behind it
  pub record Takes (t : Entry) (e : ℕ) : Type 0 where
    pub on : offered e ≡ true
    pub there : (behind e).total ≡ no_total → ⊥
    pub taken : t ≡ record { total = cost e + (behind e).total; ends = e ∷ (behind e).ends }

  weigh_taken : (best : Entry) (e : ℕ) → offered e ≡ true → (weigh entries best (cost e) e (behind e) ≡ best) ⊎ Takes (weigh entries best (cost e) e (behind e)) e
  unfolding weigh
  weigh_taken best e on =
      ⊎_elim inl
      (λ h. inr (record { on = on; there = λ q. false≢true (sym h.0 ∙ eq-eqb (behind e).total no_total q); taken = h.1 }))
      (kept_or_taken (eqb (behind e).total no_total) (leb (cost e + (behind e).total) best.total) best _)

  pub over_taken :
      (s : ℕ) (best : Entry) (k : ℕ)
      → (over_ends entries offered cost behind s best k ≡ best) ⊎ ((e : ℕ) × Takes (over_ends entries offered cost behind s best k) e)
  over_taken s best zero = inl (over_zero entries offered cost behind s best)
  over_taken s best (suc k) =
      let before = over_taken s best k in
      by_cases (Bool-discrete (offered (s + k)) true)
      (λ on.
      rw (over_offered entries offered cost behind s best k on)
      (⊎_elim (λ same. rw same before) (λ h. inr (s + k, h)) (weigh_taken (over_ends entries offered cost behind s best k) (s + k) on)))
      (λ off. rw (over_passed entries offered cost behind s best k (not-eq-not.0 off)) before)
