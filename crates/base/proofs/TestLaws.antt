-- Tests and what they mean: a law `-iff` says that a test is true exactly when the fact holds. In order:
--     by_test      what follows from either outcome of a test
--     leb-iff, ltb_iff, eqb-iff, le_int_iff      the tests of ≤, < and = on numbers, and of ≤ on integers
--     both_iff      both of two tests
--     and_of_false, and_of_true      both of two tests, by the first
--     either_iff      one of two tests
--     leb_same      two tests of ≤ that hold together are equal
--     cond_same, cond_keep      what a test decides between
-- Assumes nothing.
use Prim.Native.Nat.{ℕ, ◌≤◌, ◌<◌}
use mathlib.Core.Path.{◌≡◌, refl, sym, subst}
use mathlib.Core.Bool.{Bool, true, false, cond, ◌&&◌, ◌||◌, false≢true}
use mathlib.Core.Logic.{◌↔◌, ◌⊎◌, inl, inr, ⊎_elim}
use lib.Dec.{T, leb, ltb, eqb}
use lib.IntN.{ℤ}
use lib.Signed.{le_z, ◌≤ℤ◌}
use borrow.Author.Tests.{leb-true, ltb-true, eqb-true, le-leb, lt-ltb, eq-eqb}

-- what follows from either outcome of a test
pub by_test : {P : Type 0} (test : Bool) → (test ≡ true → P) → (test ≡ false → P) → P
by_test true f g = f refl
by_test false f g = g refl

pub leb-iff : (a b : ℕ) → (leb a b ≡ true) ↔ (a ≤ b)
leb-iff a b = (leb-true a b, le-leb a b)

pub ltb_iff : (a b : ℕ) → (ltb a b ≡ true) ↔ (a < b)
ltb_iff a b = (ltb-true a b, lt-ltb a b)

pub eqb-iff : (a b : ℕ) → (eqb a b ≡ true) ↔ (a ≡ b)
eqb-iff a b = (eqb-true a b, eq-eqb a b)

true_of : (b : Bool) → T b → b ≡ true
true_of true h = refl
true_of false h = absurd h

pub le_int_iff : (a b : ℤ) → (le_z a b ≡ true) ↔ (a ≤ℤ b)
le_int_iff a b = (λ e. record { le = subst T (sym e) tt }, λ h. true_of (le_z a b) h.le)

-- both of two tests, each with its meaning
pub both_iff : {a b : Bool} {P Q : Type 0} → (a ≡ true) ↔ P → (b ≡ true) ↔ Q → (a && b ≡ true) ↔ (P × Q)
both_iff {a = true} p q = (λ e. (p.0 refl, q.0 e), λ h. q.1 h.1)
both_iff {a = false} p q = (λ e. absurd (false≢true e), λ h. p.1 h.0)

-- where the first fails both do; where it holds the second decides
pub and_of_false : {a : Bool} (b : Bool) → a ≡ false → a && b ≡ false
and_of_false b e = rw e

pub and_of_true : {a : Bool} (b : Bool) → a ≡ true → a && b ≡ b
and_of_true b e = rw e

-- one of two tests
pub either_iff : {a b : Bool} {P Q : Type 0} → (a ≡ true) ↔ P → (b ≡ true) ↔ Q → (a || b ≡ true) ↔ (P ⊎ Q)
either_iff {a = true} p q = (λ e. inl (p.0 refl), λ h. refl)
either_iff {a = false} p q = (λ e. inr (q.0 e), ⊎_elim (λ h. absurd (false≢true (p.1 h))) q.1)

-- two tests that hold together are equal
bool_same : (a b : Bool) → (a ≡ true → b ≡ true) → (b ≡ true → a ≡ true) → a ≡ b
bool_same true b f g = sym (f refl)
bool_same false true f g = g refl
bool_same false false f g = refl

pub leb_same : (a b c d : ℕ) → (a ≤ b → c ≤ d) → (c ≤ d → a ≤ b) → leb a b ≡ leb c d
leb_same a b c d f g =
    bool_same (leb a b) (leb c d) (λ e. le-leb c d (f (leb-true a b e))) (λ e. le-leb a b (g (leb-true c d e)))

-- what a test decides: where both ways are the same where it holds, and where the one way is the other
pub cond_same : {A : Type 0} (b : Bool) {x y : A} (z : A) → (b ≡ true → x ≡ y) → cond b x z ≡ cond b y z
cond_same true z h = h refl
cond_same false z h = refl

pub cond_keep : {A : Type 0} (b : Bool) {x y : A} → y ≡ x → y ≡ cond b x y
cond_keep true e = e
cond_keep false e = refl
