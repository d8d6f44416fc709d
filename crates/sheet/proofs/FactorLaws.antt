-- Laws of `factor`. In order:
--     factor_positive, factor_none, factor_negative      the factor of an i32, by its four bytes
--     factor_value      the factor of f is 1,000,000 + f, for f from −1,000,000 up
--     factor_low      f is at least −100,000 exactly where its factor is at least 900,000
--     factor_high      f is at most r exactly where its factor is at most 1,000,000 + r
-- Assumes nothing.
use Prim.Native.Nat.{ℕ, suc, ◌+◌, ◌-◌, ◌≤◌, ◌<◌}
use mathlib.Core.Path.{◌≡◌, refl, sym}
use mathlib.Core.Bool.{true}
use native.Mathlib.Omega.{arith}
use lib.Dec.{leb}
use lib.IntN.{ℤ, pos, negsuc, neg_ℤ, ◌+ℤ◌}
use lib.Signed.{le_z}
use mir.Val.{to_z}
use mir.Syntax.{w32}
use borrow.Author.Tests.{leb-true, le-leb, lt-ltb, le-ltb}
use Rattle.base.proofs.TestLaws.{leb_same}
use Rattle.sheet.specs.Sheet.{factor}

-- four bytes stand for a number from 0 up, for one below −1,000,000, or for one between
pub factor_positive : (x : ℕ) → x < 2_147_483_648 → 1_000_000 + x ≡ factor (to_z w32 x)
unfolding factor
factor_positive x h = rw (lt-ltb x 2_147_483_648 h)

pub factor_none : (x : ℕ) → 2_147_483_648 ≤ x → x < 4_293_967_296 → 0 ≡ factor (to_z w32 x)
unfolding factor
factor_none x h l = rw (le-ltb x 2_147_483_648 h) (omega arith)

pub factor_negative : (x : ℕ) → 4_293_967_296 ≤ x → x < 4_294_967_296 → x - 4_293_967_296 ≡ factor (to_z w32 x)
unfolding factor
factor_negative x h l = rw (le-ltb x 2_147_483_648 (omega arith)) (omega arith)

pub factor_value : (f : ℤ) → le_z (neg_ℤ (pos 1_000_000)) f ≡ true → pos (factor f) ≡ pos 1_000_000 +ℤ f
unfolding factor
factor_value (pos f) h = refl
factor_value (negsuc f) h =
    let k = leb-true f 999_999 h in
    simp (le-ltb 1_000_000 (suc f) (omega arith))

pub factor_low : (f : ℤ) → le_z (neg_ℤ (pos 100_000)) f ≡ leb 900_000 (factor f)
unfolding factor
factor_low (pos f) = sym (le-leb 900_000 (1_000_000 + f) (omega arith))
factor_low (negsuc f) = leb_same f 99_999 900_000 (1_000_000 - suc f) (λ h. omega arith) (λ h. omega arith)

pub factor_high : (f : ℤ) (r : ℕ) → le_z f (pos r) ≡ leb (factor f) (1_000_000 + r)
unfolding factor
factor_high (pos f) r = leb_same f r (1_000_000 + f) (1_000_000 + r) (λ h. omega arith) (λ h. omega arith)
factor_high (negsuc f) r = sym (le-leb (1_000_000 - suc f) (1_000_000 + r) (omega arith))
