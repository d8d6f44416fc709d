-- Laws of `Chosen`: no list of the set weighs less than the chosen one (`chosen_le`), there is at most one chosen list (`chosen_only`), and
-- it depends only on which lists are in the set and on their weights (`chosen_same`). Assumes nothing.
use Prim.Native.Nat.{ℕ, ◌≤◌}
use mathlib.Core.Path.{◌≡◌, refl, ap₂}
use mathlib.Core.List.{List, [], ◌∷◌}
use mathlib.Core.Logic.{◌↔◌, inl, inr, ⊎_elim}
use native.Mathlib.Omega.{arith}
use Rattle.choice.specs.Choice.{Before, Chosen}

before_same : (xs ys : List ℕ) → Before xs ys → Before ys xs → xs ≡ ys
before_same [] [] h k = refl
before_same [] (y ∷ ys) h k = absurd k
before_same (x ∷ xs) [] h k = absurd h
before_same (x ∷ xs) (y ∷ ys) (inl h) (inl k) = absurd (omega arith)
before_same (x ∷ xs) (y ∷ ys) (inl h) (inr k) = absurd (omega (arith, k.0))
before_same (x ∷ xs) (y ∷ ys) (inr h) (inl k) = absurd (omega (arith, h.0))
before_same (x ∷ xs) (y ∷ ys) (inr h) (inr k) = ap₂ ◌∷◌ h.0 (before_same xs ys h.1 k.1)

module _ (S : List ℕ → Type 0) (weight : List ℕ → ℕ) where
  pub chosen_le : (xs : List ℕ) → Chosen S weight xs → (ys : List ℕ) → S ys → weight xs ≤ weight ys
  chosen_le xs h ys m = ⊎_elim (λ l. omega arith) (λ e. omega (arith, e.0)) (h.least ys m)

  chosen_before : (xs ys : List ℕ) → Chosen S weight xs → Chosen S weight ys → Before xs ys
  chosen_before xs ys h k =
      ⊎_elim (λ l. absurd (omega (arith, chosen_le ys k xs h.member))) (λ e. e.1) (h.least ys k.member)

  pub chosen_only : (xs ys : List ℕ) → Chosen S weight xs → Chosen S weight ys → xs ≡ ys
  chosen_only xs ys h k = before_same xs ys (chosen_before xs ys h k) (chosen_before ys xs k h)

pub chosen_same :
    (S S' : List ℕ → Type 0) (w w' : List ℕ → ℕ) → ((xs : List ℕ) → S xs ↔ S' xs) → ((xs : List ℕ) → S xs → w xs ≡ w' xs)
    → (xs : List ℕ) → Chosen S w xs → Chosen S' w' xs
chosen_same S S' w w' same equal xs h =
    record {
      member = (same xs).0 h.member;
      least = λ ys m. let m' = (same ys).1 m in rw (equal xs h.member, equal ys m') at (h.least ys m');
    }
