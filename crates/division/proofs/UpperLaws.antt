-- The upper half of the product of two numbers of 64 bits, from the products of their halves (`upper_is`), each of whose sums fits in 64 bits
-- (`middle_fits`, `lower_fits`, `carried_fits`, `upper_fits`). Assumes nothing.
use Prim.Native.Nat.{ℕ, ◌+◌, ◌-◌, ◌*◌, ◌/◌, ◌%◌, ◌^◌, ◌≤◌, ◌<◌}
use mathlib.Core.Path.{◌≡◌}
use native.Mathlib.Omega.{arith}
use native.Mathlib.Nat.{mul-le-mul}

-- the product of two numbers of 32 bits
pub small_product_le : (x y : ℕ) → x < 2 ^ 32 → y < 2 ^ 32 → x * y ≤ (2 ^ 32 - 1) * (2 ^ 32 - 1)
small_product_le x y h l =
    let h' : x ≤ 2 ^ 32 - 1 = omega arith in
    let l' : y ≤ 2 ^ 32 - 1 = omega arith in
    mul-le-mul h' l'

-- a and b are the halves of one number, c and d those of the other; a sum hands its carry to the next
abbrev middle_sum : (a b d : ℕ) → ℕ
middle_sum a b d = a * d + b * d / 2 ^ 32

abbrev lower_sum : (a b c d : ℕ) → ℕ
lower_sum a b c d = middle_sum a b d % 2 ^ 32 + b * c

abbrev upper_half : (a b c d : ℕ) → ℕ
upper_half a b c d = a * c + middle_sum a b d / 2 ^ 32 + lower_sum a b c d / 2 ^ 32

-- what is left below the upper half has 64 bits
halves_split :
    (a b c d : ℕ)
    → (a * 2 ^ 32 + b) * (c * 2 ^ 32 + d) ≡ upper_half a b c d * 2 ^ 64 + (lower_sum a b c d % 2 ^ 32 * 2 ^ 32 + b * d % 2 ^ 32)
halves_split a b c d = omega arith

module _ (x y : ℕ) where
  pub upper_is : upper_half (x / 2 ^ 32) (x % 2 ^ 32) (y / 2 ^ 32) (y % 2 ^ 32) ≡ x * y / 2 ^ 64
  upper_is =
      let x' : x / 2 ^ 32 * 2 ^ 32 + x % 2 ^ 32 ≡ x = omega arith in
      let y' : y / 2 ^ 32 * 2 ^ 32 + y % 2 ^ 32 ≡ y = omega arith in
      omega (arith, rw (x', y') at (halves_split (x / 2 ^ 32) (x % 2 ^ 32) (y / 2 ^ 32) (y % 2 ^ 32)))

  module _ (hx : x < 2 ^ 64) (hy : y < 2 ^ 64) where
    pub middle_fits : middle_sum (x / 2 ^ 32) (x % 2 ^ 32) (y % 2 ^ 32) < 2 ^ 64
    middle_fits =
        omega
        (arith, small_product_le (x / 2 ^ 32) (y % 2 ^ 32) (omega arith) (omega arith), small_product_le (x % 2 ^ 32) (y % 2 ^ 32) (omega arith) (omega arith))

    pub lower_fits : lower_sum (x / 2 ^ 32) (x % 2 ^ 32) (y / 2 ^ 32) (y % 2 ^ 32) < 2 ^ 64
    lower_fits = omega (arith, small_product_le (x % 2 ^ 32) (y / 2 ^ 32) (omega arith) (omega arith))

    pub carried_fits : x / 2 ^ 32 * (y / 2 ^ 32) + middle_sum (x / 2 ^ 32) (x % 2 ^ 32) (y % 2 ^ 32) / 2 ^ 32 < 2 ^ 64
    carried_fits = omega (arith, small_product_le (x / 2 ^ 32) (y / 2 ^ 32) (omega arith) (omega arith), middle_fits)

    pub upper_fits : upper_half (x / 2 ^ 32) (x % 2 ^ 32) (y / 2 ^ 32) (y % 2 ^ 32) < 2 ^ 64
    upper_fits = omega (arith, small_product_le (x / 2 ^ 32) (y / 2 ^ 32) (omega arith) (omega arith), middle_fits, lower_fits)
