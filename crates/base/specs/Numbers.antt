-- Numbers in bytes, read and written: multi-byte fields are little-endian, and a byte past the end reads as 0. Definitions only.
use Rattle.std.specs.Prelude.{ℕ, ◌+◌, ◌*◌, zero, suc, ◌/◌, ◌%◌, List, [], ◌∷◌, ℤ, get_or}
use Rattle.std.specs.Int.{w32}
use Rattle.std.proofs.Common.{to_z}

-- two and four bytes, the lowest first
abbrev pub sum16 : List ℕ → ℕ → ℕ
sum16 s at = get_or s at 0 + 256 * get_or s (at + 1) 0

abbrev pub sum32 : List ℕ → ℕ → ℕ
sum32 s at = get_or s at 0 + 256 * get_or s (at + 1) 0 + 65_536 * get_or s (at + 2) 0 + 16_777_216 * get_or s (at + 3) 0

-- the u16 at a place
unfoldable pub u16_at : List ℕ → ℕ → ℕ
u16_at s at = sum16 s at

-- the u32 at a place
unfoldable pub u32_at : List ℕ → ℕ → ℕ
u32_at s at = sum32 s at

-- the i32 at a place, in two's complement
unfoldable pub i32_at : List ℕ → ℕ → ℤ
i32_at s at = to_z w32 (u32_at s at)

-- a number in that many bytes, the lowest first
unfoldable pub bytes_of : (count number : ℕ) → List ℕ
bytes_of zero x = []
bytes_of (suc n) x = x % 256 ∷ bytes_of n (x / 256)

-- the number in that many bytes from a place on
unfoldable pub number_at : List ℕ → (at count : ℕ) → ℕ
number_at s at zero = 0
number_at s at (suc n) = get_or s at 0 + 256 * number_at s (at + 1) n

-- the bytes from a place on, that many
unfoldable pub bytes_at : List ℕ → (at count : ℕ) → List ℕ
bytes_at s at zero = []
bytes_at s at (suc n) = get_or s at 0 ∷ bytes_at s (at + 1) n
