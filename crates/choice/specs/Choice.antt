-- Which of several lists of years is chosen: document 01, 'Of equal totals it takes ..'. A chain's years are i, j and the ends of its
-- replacements, so that largest i, then largest j, then the later end is one rule. Definitions only.
use Rattle.std.specs.Prelude.{ℕ, ◌<◌, ◌≡◌, List, [], ◌∷◌, ◌⊎◌}

-- xs comes at or before ys in the order of choice: at the first place where they differ xs has the later year. (A list that ends first comes
-- first; of two lists that lead to T, neither goes on where the other ends.)
abbrev pub Before : (xs ys : List ℕ) → Type 0
Before [] ys = Unit {0}
Before (x ∷ xs) [] = ⊥
Before (x ∷ xs) (y ∷ ys) = (y < x) ⊎ ((x ≡ y) × Before xs ys)

-- xs is of a smaller weight than ys; or of the same weight, and at or before it
abbrev pub NotWorse : (List ℕ → ℕ) → (xs ys : List ℕ) → Type 0
NotWorse weight xs ys = (weight xs < weight ys) ⊎ ((weight xs ≡ weight ys) × Before xs ys)

-- the list that is chosen from a set of lists by their weight
pub record Chosen (S : List ℕ → Type 0) (weight : List ℕ → ℕ) (xs : List ℕ) : Type 0 where
  pub member : S xs
  pub least : (ys : List ℕ) → S ys → NotWorse weight xs ys
