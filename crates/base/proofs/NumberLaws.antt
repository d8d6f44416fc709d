-- Laws of numbers in bytes. In order:
--     u16_zero-iff, u32_zero-iff      a number is 0 exactly when its bytes are
--     bytes_of-length      how many bytes
--     bytes_at-append, bytes_at_two, bytes_at-rest      the bytes from a place on, part by part
--     u16_at_number, number_bytes_at, u16_at-bytes_at      a number is read where its bytes stand
--     bytes_of_number, bytes_of-u16_at      the bytes of the number that is read are those that stand there
--     get_or-below      each byte is below 256
--     number_take, u16_take      a number depends only on the bytes in which it stands
--     sets_byte, sets_no_byte      one byte of a number more is stored, and none, as a loop stores them
-- Assumes nothing.
use Prim.Native.Nat.{ℕ, ◌+◌, zero, suc, ◌*◌, ◌/◌, ◌%◌, ◌^◌, ◌<◌, ◌≤◌, ◌-◌}
use mathlib.Core.Path.{◌≡◌, refl, ap, ap₂, ◌∙◌, sym, subst}
use mathlib.Core.List.{List, [], ◌∷◌, ◌++◌, head-eq_of_cons-eq, tail-eq_of_cons-eq}
use mathlib.Core.Logic.{◌↔◌}
use native.Mathlib.Omega.{arith}
use lib.ListN.{get_or, length, length-append, get_or-eq_default, take, set}
use native.Mathlib.Nat.{pow-suc, add-zero, zero-add, suc-add}
use lib.Dec.{ltb}
use lib.Seq.{get_or_at, append_snoc, get_or-take, sets}
use borrow.Author.Tests.{ltb-true, ltb-false}
use native.Mathlib.Numerals.{add-one}
use Rattle.base.specs.Numbers.{u16_at, u32_at, bytes_of, number_at, bytes_at}
use Rattle.base.proofs.TestLaws.{by_test}

-- a u16 is 0 exactly when its two bytes are, a u32 exactly when its four are
pub u16_zero-iff : (s : List ℕ) (at : ℕ) → (u16_at s at ≡ 0) ↔ ((get_or s at 0 ≡ 0) × (get_or s (at + 1) 0 ≡ 0))
unfolding u16_at
u16_zero-iff s at = (λ e. omega arith, λ e. omega arith)

pub u32_zero-iff :
    (s : List ℕ) (at : ℕ) →
    (u32_at s at ≡ 0) ↔
    ((get_or s at 0 ≡ 0) × (get_or s (at + 1) 0 ≡ 0) × (get_or s (at + 2) 0 ≡ 0) × (get_or s (at + 3) 0 ≡ 0))
unfolding u32_at
u32_zero-iff s at = (λ e. omega arith, λ e. omega arith)

-- how many bytes
pub bytes_of-length : (n x : ℕ) → length (bytes_of n x) ≡ n
unfolding bytes_of
bytes_of-length zero x = refl
bytes_of-length (suc n) x = ap suc (bytes_of-length n (x / 256))

-- the bytes of two parts that follow each other
pub bytes_at-append : (s : List ℕ) (at n m : ℕ) → bytes_at s at (n + m) ≡ bytes_at s at n ++ bytes_at s (at + n) m
unfolding bytes_at
bytes_at-append s at zero m = rw (zero-add, add-zero)
bytes_at-append s at (suc n) m =
    let e : at + suc n ≡ at + 1 + n = omega arith in
    rw (suc-add, e) (ap (λ (l : List ℕ). get_or s at 0 ∷ l) (bytes_at-append s (at + 1) n m))

pub bytes_at_two : (s : List ℕ) (at n : ℕ) → bytes_at s at (2 * suc n) ≡ bytes_at s at 2 ++ bytes_at s (at + 2) (2 * n)
bytes_at_two s at n = let e : 2 * suc n ≡ 2 + 2 * n = omega arith in rw e (bytes_at-append s at 2 (2 * n))

-- what follows a list in an append stands from its end on
pub bytes_at-rest : (l r : List ℕ) (at : ℕ) → length l ≡ at → bytes_at (l ++ r) at (length r) ≡ r
unfolding bytes_at
bytes_at-rest l [] at h = refl
bytes_at-rest l (x ∷ xs) at h =
    ap₂ (λ (y : ℕ) (ys : List ℕ). y ∷ ys) (get_or_at l x xs 0 at h)
    (subst (λ (ys : List ℕ). bytes_at ys (at + 1) (length xs) ≡ xs) (append_snoc l x xs)
    (bytes_at-rest (l ++ (x ∷ [])) xs (at + 1) (simp length-append (omega arith))))

-- a u16 is a number in two bytes
pub u16_at_number : (s : List ℕ) (at : ℕ) → u16_at s at ≡ number_at s at 2
unfolding u16_at number_at
u16_at_number s at = omega arith

-- where the bytes of a number below 256^n stand, that number is read; so for a u16
pub number_bytes_at : (s : List ℕ) (at n x : ℕ) → x < 256 ^ n → bytes_at s at n ≡ bytes_of n x → number_at s at n ≡ x
unfolding bytes_at bytes_of number_at
number_bytes_at s at zero x h e = omega arith
number_bytes_at s at (suc n) x h e =
    omega (arith, head-eq_of_cons-eq e, number_bytes_at s (at + 1) n (x / 256) (omega (arith, pow-suc 256 n)) (tail-eq_of_cons-eq e))

pub u16_at-bytes_at : (s : List ℕ) (at x : ℕ) → x < 65_536 → bytes_at s at 2 ≡ bytes_of 2 x → u16_at s at ≡ x
u16_at-bytes_at s at x h e = u16_at_number s at ∙ number_bytes_at s at 2 x h e

-- the bytes of the number that is read from a place on are those that stand there; so for a u16
module _ (s : List ℕ) (byte : (k : ℕ) → get_or s k 0 < 256) where
  pub bytes_of_number : (at n : ℕ) → bytes_of n (number_at s at n) ≡ bytes_at s at n
  unfolding bytes_at bytes_of number_at
  bytes_of_number at zero = refl
  bytes_of_number at (suc n) =
      let low = byte at in
      let x = get_or s at 0 + 256 * number_at s (at + 1) n in
      let r : x % 256 ≡ get_or s at 0 = omega arith in
      let q : x / 256 ≡ number_at s (at + 1) n = omega arith in
      rw (r, q) (ap (λ (l : List ℕ). get_or s at 0 ∷ l) (bytes_of_number (at + 1) n))

  pub bytes_of-u16_at : (at : ℕ) → bytes_of 2 (u16_at s at) ≡ bytes_at s at 2
  bytes_of-u16_at at = rw u16_at_number (bytes_of_number at 2)

-- each byte is below 256, since one past the end reads as 0
pub get_or-below : (s : List ℕ) → ((k : ℕ) → k < length s → get_or s k 0 < 256) → (k : ℕ) → get_or s k 0 < 256
get_or-below s h k =
    by_test (ltb k (length s))
    (λ e. h k (ltb-true k (length s) e))
    (λ e. let past = ltb-false k (length s) e in rw (get_or-eq_default s 0) (omega arith))

-- the first n bytes
module _ (s : List ℕ) (n : ℕ) where
  pub number_take : (at count : ℕ) → at + count ≤ n → number_at (take n s) at count ≡ number_at s at count
  unfolding number_at
  number_take at zero h = refl
  number_take at (suc count) h = rw (get_or-take n s at 0 (omega arith), number_take (at + 1) count (omega arith))

  pub u16_take : (at : ℕ) → at + 2 ≤ n → u16_at (take n s) at ≡ u16_at s at
  u16_take at h = u16_at_number (take n s) at ∙ number_take at 2 h ∙ sym (u16_at_number s at)

-- the bytes of a number that are left to store: one more, and none
module _ (l : List ℕ) (at left rest : ℕ) where
  pub sets_byte : 0 < left → sets l at (bytes_of left rest) ≡ sets (set l at (rest % 256)) (at + 1) (bytes_of (left - 1) (rest / 256))
  unfolding bytes_of
  sets_byte h =
      let e : left ≡ suc (left - 1) = omega arith in rw (add-one at) (ap (λ (n : ℕ). sets l at (bytes_of n rest)) e)

  pub sets_no_byte : left ≤ 0 → sets l at (bytes_of left rest) ≡ l
  unfolding bytes_of
  sets_no_byte h = let e : left ≡ 0 = omega arith in rw e
