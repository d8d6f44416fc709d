-- Laws of `Lists.antt`, for lists of anything. In order:
--     every_map      what follows for each member follows for every member of a list
--     every_mapped      what holds of each member's image holds of every member of the list of images
--     every_append      what holds of every member of two lists holds of every member of both together
--     sum_of-append, sum_of-cons, sum_of_one, sum_of_two      the sum over two lists together, over a member and the rest, over one and over two
--     length-listed, get_or-listed      a list that is given by its index: how long it is, and what stands at an index
-- Assumes nothing.
use Prim.Native.Nat.{ℕ, ◌+◌, zero, suc, ◌<◌}
use mathlib.Core.Path.{◌≡◌, refl, ap}
use mathlib.Core.List.{List, [], ◌∷◌, ◌++◌, map}
use native.Mathlib.Nat.{add-zero, le_of_suc-le-suc, not-suc-le-zero}
use native.Mathlib.Omega.{arith}
use lib.ListN.{length, get_or}
use Rattle.base.specs.Lists.{Every, sum_of, listed}

pub every_map : {A : Type 0} (S R : A → Type 0) → ((x : A) → S x → R x) → (xs : List A) → Every S xs → Every R xs
every_map S R f [] h = tt
every_map S R f (x ∷ xs) h = (f x h.0, every_map S R f xs h.1)

pub every_mapped : {A B : Type 0} (S : B → Type 0) (f : A → B) (xs : List A) → Every (λ x. S (f x)) xs → Every S (map f xs)
every_mapped S f [] h = tt
every_mapped S f (x ∷ xs) h = (h.0, every_mapped S f xs h.1)

pub every_append : {A : Type 0} (S : A → Type 0) (xs ys : List A) → Every S xs → Every S ys → Every S (xs ++ ys)
every_append S [] ys h k = k
every_append S (x ∷ xs) ys h k = (h.0, every_append S xs ys h.1 k)

module _ {A : Type 0} (φ : A → ℕ) where
  pub sum_of-append : (xs ys : List A) → sum_of φ (xs ++ ys) ≡ sum_of φ xs + sum_of φ ys
  unfolding sum_of
  sum_of-append [] ys = omega arith
  sum_of-append (x ∷ xs) ys = rw (sum_of-append xs ys) (omega arith)

  pub sum_of-cons : (x : A) (xs : List A) → sum_of φ (x ∷ xs) ≡ φ x + sum_of φ xs
  unfolding sum_of
  sum_of-cons x xs = refl

  pub sum_of_one : (x : A) → sum_of φ (x ∷ []) ≡ φ x
  unfolding sum_of
  sum_of_one x = add-zero (φ x)

  pub sum_of_two : (x y : A) → sum_of φ (x ∷ y ∷ []) ≡ φ x + φ y
  unfolding sum_of
  sum_of_two x y = omega arith

pub length-listed : {A : Type 0} (n : ℕ) (f : ℕ → A) → length (listed n f) ≡ n
length-listed zero f = refl
length-listed (suc n) f = ap suc (length-listed n (λ j. f (suc j)))

pub get_or-listed : {A : Type 0} (n : ℕ) (f : ℕ → A) (j : ℕ) (other : A) → j < n → get_or (listed n f) j other ≡ f j
get_or-listed zero f j other h = absurd (not-suc-le-zero h)
get_or-listed (suc n) f zero other h = refl
get_or-listed (suc n) f (suc j) other h = get_or-listed n (λ i. f (suc i)) j other (le_of_suc-le-suc h)
