-- Laws of numbers in base ten: one digit, and one more than the power of ten that a number reaches (`places-below`, `places_counted`); n digits hold a number below 10^n
-- (`decimal-length`); digits are put from the last one on (`digit_put`, `digit_none`). Assumes
-- nothing.
use Prim.Native.Nat.{ℕ, zero, suc, ◌+◌, ◌-◌, ◌*◌, ◌/◌, ◌%◌, ◌^◌, ◌≤◌, ◌<◌, max}
use mathlib.Core.Path.{◌≡◌, refl, sym, subst, ◌∙◌}
use mathlib.Core.List.{List, [], ◌∷◌}
use native.Mathlib.Nat.{div-lt_iff_lt-mul, pow-suc, zero-lt-suc}
use Rattle.std.proofs.Math.Nat.{one-le-pow}
use native.Mathlib.Omega.{arith}
use lib.Dec.{ltb}
use lib.ListN.{length, set, length-append}
use lib.Seq.{sets, set_comm}
use borrow.Author.Tests.{ltb-true, ltb-false, lt-ltb, le-ltb}
use Rattle.base.proofs.StoreLaws.{sets-append}
use Rattle.base.proofs.TestLaws.{by_test}
use Rattle.lines.specs.Lines.{places, digits, decimal}

pub places-below : (n x : ℕ) → x < 10 → places n x ≡ 1
unfolding places
places-below zero x h = refl
places-below (suc n) x h = rw (lt-ltb x 10 h)

places-from : (n x : ℕ) → 10 ≤ x → places (suc n) x ≡ suc (places n (x / 10))
unfolding places
places-from n x h = rw (le-ltb x 10 h)

tenth_lt : (n x : ℕ) → x < 10 ^ suc n → x / 10 < 10 ^ n
tenth_lt n x h = (div-lt_iff_lt-mul (zero-lt-suc 9)).1 (subst (λ (y : ℕ). x < y) (pow-suc 10 n) h)

places_none : (x : ℕ) → places 0 x ≡ 1
unfolding places
places_none x = refl

-- a number from the r-th power of ten on and below the next one has one digit more than r
places_by : (n r x : ℕ) → r ≤ n → 10 ^ r ≤ x → x < 10 * 10 ^ r → places n x ≡ r + 1
places_by n zero x h low high = let one : 10 ^ 0 ≡ 1 = refl in rw (places-below n x (omega arith)) refl
places_by zero (suc r) x h low high = absurd (omega arith)
places_by (suc n) (suc r) x h low high =
    let power : 10 ^ suc r ≡ 10 ^ r * 10 = pow-suc 10 r in
    let some : 1 ≤ 10 ^ r = one-le-pow r 10 (zero-lt-suc 9) in
    let from : 10 ^ r * 10 ≤ x = subst (λ (p : ℕ). p ≤ x) power low in
    let below : x < 10 * (10 ^ r * 10) = subst (λ (p : ℕ). x < 10 * p) power high in
    rw (places-from n x (omega arith), places_by n r (x / 10) (omega arith) (omega arith) (omega arith)) (omega arith)

places_least : (n x : ℕ) → places n (max x 1) ≡ places n x
places_least n zero = places-below n 1 (omega arith) ∙ sym (places-below n 0 (omega arith))
places_least n (suc x) = let e : max (suc x) 1 ≡ suc x = omega arith in rw e refl

-- so the logarithm counts digits, that of 1 for 0
pub places_counted : (x y r : ℕ) → y ≡ max x 1 → r < 20 → 10 ^ r ≤ y → y < 10 * 10 ^ r → r + 1 ≡ places 19 x
places_counted x y r e bound low high = sym (places_by 19 r y (omega arith) low high) ∙ rw e (places_least 19 x)

places-le : (most n x : ℕ) → x < 10 ^ suc n → places most x ≤ suc n
places-le zero n x h = rw (places_none x) (omega arith)
places-le (suc most) zero x h = rw (places-below (suc most) x h) (omega arith)
places-le (suc most) (suc n) x h =
    let tenth = places-le most n (x / 10) (tenth_lt (suc n) x h) in
    by_test (ltb x 10)
    (λ e. rw (places-below (suc most) x (ltb-true x 10 e)) (omega arith))
    (λ e. rw (places-from most x (ltb-false x 10 e)) (omega arith))

digits-length : (n x : ℕ) → length (digits n x) ≡ n
unfolding digits
digits-length zero x = refl
digits-length (suc n) x = length-append (digits n (x / 10)) _ ∙ rw (digits-length n (x / 10)) (omega arith)

pub decimal-places : (x : ℕ) → length (decimal x) ≡ places 19 x
unfolding decimal
decimal-places x = digits-length (places 19 x) x

pub decimal-length : (n x : ℕ) → x < 10 ^ suc n → length (decimal x) ≤ suc n
decimal-length n x h = rw (decimal-places x) (places-le 19 n x h)

-- a store behind a run of stores can be made first
sets_before : (vs l : List ℕ) (at i v : ℕ) → at + length vs ≤ i → sets (set l i v) at vs ≡ set (sets l at vs) i v
sets_before [] l at i v h = refl
sets_before (x ∷ vs) l at i v h = rw (set_comm l i at v x (λ q. omega arith)) (sets_before vs (set l at x) (suc at) i v (omega arith))

-- digits are put from the last one on: one, and those that are left; and none
module _ (text : List ℕ) (at x : ℕ) where
  pub digit_put : (n : ℕ) → sets (set text (at + n) (48 + x % 10)) at (digits n (x / 10)) ≡ sets text at (digits (suc n) x)
  unfolding digits
  digit_put n =
      let long = digits-length n (x / 10) in
      rw (sets-append text at (digits n (x / 10)) ((48 + x % 10) ∷ []), long)
      (sets_before (digits n (x / 10)) text at (at + n) (48 + x % 10) (omega arith))

  pub digit_none : (n : ℕ) → n ≡ 0 → sets text at (digits n x) ≡ text
  unfolding digits
  digit_none n none = rw none
