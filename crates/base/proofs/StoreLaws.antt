-- Laws of values that are stored into a list. In order:
--     read_after      what is read after a store: the value at its place, and elsewhere what was there
--     written_more      a list that has a figure at each index of a domain, after one store more
--     sets-set, sets-cons      a store before a run of stores can be made last
--     sets-append      two runs, one behind the other, are one
--     sets_other, sets_same      what is read outside of a run, and in it
--     written_first, written_behind, written_only      what was written to the front of a list is read there, what stands behind it is kept, and
--         a list of which both hold is the one that was written
-- Assumes nothing.
use Prim.Native.Nat.{ℕ, ◌<◌, suc, ◌+◌, zero, ◌≤◌, ◌-◌}
use mathlib.Core.Path.{◌≡◌, refl, sym, ◌∙◌}
use mathlib.Core.List.{List, [], ◌∷◌, ◌++◌, map}
use native.Mathlib.Nat.{add-zero, zero-add}
use native.Mathlib.Omega.{arith}
use lib.Dec.{eqb, ltb}
use lib.ListN.{length, get_or, set, length-set, take, drop, get_or-append}
use lib.Seq.{get_or-set_same, get_or-set_other, sets, set_comm, sets-eq, length-sets, take-append_seam, get_or-append-add, get_or-drop, ext_get_or}
use borrow.Author.Tests.{eqb-true, eqb-false, ltb-true, ltb-false}
use Rattle.base.proofs.TestLaws.{by_test}

-- what is read after a store: the value at its place, and elsewhere what was there
pub read_after :
    (P : ℕ → Type 0) (l : List ℕ) (i v e : ℕ) → i < length l → (e ≡ i → P v) → ((e ≡ i → ⊥) → P (get_or l e 0)) → P (get_or (set l i v) e 0)
read_after P l i v e inside there elsewhere =
    by_test (eqb e i)
    (λ t. let same = eqb-true e i t in rw (same, get_or-set_same l i v 0 inside) (there same))
    (λ t. let other = eqb-false e i t in rw (get_or-set_other l i e v 0 other) (elsewhere other))

-- one value more is written: a list that had the figure of each index of a domain has it of the next one too
pub written_more :
    (place figure : ℕ → ℕ) (D D' : ℕ → Type 0) (l : List ℕ) (i : ℕ) {v : ℕ} → place i < length l → v ≡ figure i
    → ((k : ℕ) → (k ≡ i → ⊥) → place k ≡ place i → ⊥) → ((k : ℕ) → D' k → (k ≡ i → ⊥) → D k)
    → ((k : ℕ) → D k → get_or l (place k) 0 ≡ figure k) → (k : ℕ) → D' k → get_or (set l (place i) v) (place k) 0 ≡ figure k
written_more place figure D D' l i {v} inside value apart others before k here =
    by_test (eqb k i)
    (λ t. rw (eqb-true k i t) (get_or-set_same l (place i) v 0 inside ∙ value))
    (λ t. let other = eqb-false k i t in get_or-set_other l (place i) (place k) v 0 (apart k other) ∙ before k (others k here other))

-- a store before a run of stores at later places, and so the first store of a run, can be made last
pub sets-set : (vs l : List ℕ) (i j v : ℕ) → i < j → sets (set l i v) j vs ≡ set (sets l j vs) i v
sets-set [] l i j v h = refl
sets-set (x ∷ vs) l i j v h = rw (set_comm l i j v x (λ q. omega arith)) (sets-set vs (set l j x) i (suc j) v (omega arith))

pub sets-cons : (vs l : List ℕ) (i v : ℕ) → sets l i (v ∷ vs) ≡ set (sets l (suc i) vs) i v
sets-cons vs l i v = sets-set vs l i (suc i) v (omega arith)

pub sets-append : (l : List ℕ) (i : ℕ) (xs ys : List ℕ) → sets l i (xs ++ ys) ≡ sets (sets l i xs) (i + length xs) ys
sets-append l i [] ys = rw add-zero
sets-append l i (x ∷ xs) ys =
    let e : i + suc (length xs) ≡ suc i + length xs = omega arith in rw e (sets-append (set l i x) (suc i) xs ys)

-- a run of stores, of a figure of each member of a list
module _ {A : Type 0} (f : A → ℕ) where
  -- changes no value outside of it
  pub sets_other : (ts : List A) (l : List ℕ) (i k : ℕ) → (i ≤ k → i + length ts ≤ k) → get_or (sets l i (map f ts)) k 0 ≡ get_or l k 0
  sets_other [] l i k out = refl
  sets_other (t ∷ ts) l i k out =
      sets_other ts (set l i (f t)) (suc i) k (λ h. omega (arith, out (omega arith)))
      ∙ get_or-set_other l i k (f t) 0 (λ q. omega (arith, out (omega arith)))

  -- and puts the figure of the j-th member at its j-th place
  pub sets_same :
      (ts : List A) (other : A) (l : List ℕ) (i k j : ℕ) → k ≡ i + j → j < length ts → i + length ts ≤ length l
      → get_or (sets l i (map f ts)) k 0 ≡ f (get_or ts j other)
  sets_same [] other l i k j q h room = absurd (omega arith)
  sets_same (t ∷ ts) other l i k zero q h room =
      sets_other ts (set l i (f t)) (suc i) k (λ h. omega arith) ∙ rw (q, add-zero i) (get_or-set_same l i (f t) 0 (omega arith))
  sets_same (t ∷ ts) other l i k (suc j) q h room =
      sets_same ts other (set l i (f t)) (suc i) k j (omega arith) (omega arith) (omega (arith, length-set l i (f t)))

-- what was written to the front of a buffer that is long enough
module _ (plan bs : List ℕ) (room : length bs ≤ length plan) where
  sets-front : sets plan 0 bs ≡ bs ++ drop (length bs) plan
  sets-front =
      let long : 0 + length bs ≤ length plan = omega arith in
      rw (← zero-add (length bs)) (sets-eq bs plan 0 long)

  pub written_first : take (length bs) (sets plan 0 bs) ≡ bs
  written_first = rw sets-front (take-append_seam bs (drop (length bs) plan))

  written_same : (k : ℕ) → k < length bs → get_or (sets plan 0 bs) k 0 ≡ get_or bs k 0
  written_same k early = rw sets-front (get_or-append bs (drop (length bs) plan) 0 k early)

  pub written_behind : (k : ℕ) → length bs ≤ k → get_or (sets plan 0 bs) k 0 ≡ get_or plan k 0
  written_behind k behind =
      let n = length bs in
      let e : k ≡ n + (k - n) = omega arith in
      rw (sets-front, e) (get_or-append-add bs (drop n plan) (k - n) 0 ∙ get_or-drop n plan (k - n) 0)

  -- a list with these values in front and the old ones behind is the list that was written
  pub written_only :
      (new : List ℕ) → length new ≡ length plan → ((k : ℕ) → k < length bs → get_or new k 0 ≡ get_or bs k 0)
      → ((k : ℕ) → length bs ≤ k → get_or new k 0 ≡ get_or plan k 0) → new ≡ sets plan 0 bs
  written_only new same front behind =
      ext_get_or 0 new (sets plan 0 bs) (same ∙ sym (length-sets plan 0 bs)) (λ k l.
      by_test (ltb k (length bs))
      (λ t. let early = ltb-true k (length bs) t in front k early ∙ sym (written_same k early))
      (λ t. let late = ltb-false k (length bs) t in behind k late ∙ sym (written_behind k late)))
