-- What is said of every member of a list, the sum of a figure over a list, the list that is given by its index, and the first of a list.
-- Definitions only.
use Rattle.std.specs.Prelude.{ℕ, ◌+◌, zero, suc, List, [], ◌∷◌}

-- each member
abbrev pub Every : {A : Type 0} → (A → Type 0) → List A → Type 0
Every S [] = Unit {0}
Every S (x ∷ xs) = S x × Every S xs

-- the sum of a figure over the members
unfoldable pub sum_of : {A : Type 0} → (A → ℕ) → List A → ℕ
sum_of figure [] = 0
sum_of figure (x ∷ xs) = figure x + sum_of figure xs

-- f 0, f 1, .., f (n − 1)
abbrev pub listed : {A : Type 0} → ℕ → (ℕ → A) → List A
listed zero f = []
listed (suc n) f = f 0 ∷ listed n (λ j. f (suc j))

-- the first of some numbers, 0 if there are none
abbrev pub first_of : List ℕ → ℕ
first_of [] = 0
first_of (k ∷ ks) = k
