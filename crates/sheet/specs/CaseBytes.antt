-- The bytes of the sheets of cases, written out: they do not go by the definitions that a case evaluates. Definitions only.
use Rattle.std.specs.Prelude.{ℕ, ◌*◌, ◌-◌, ◌/◌, ◌%◌, List, [], ◌∷◌, ◌++◌, length, replicate}

-- little-endian fields: a u16, a u32, and several u32
abbrev pub bytes16 : ℕ → List ℕ
bytes16 n = n % 256 ∷ n / 256 ∷ []

abbrev pub bytes32 : ℕ → List ℕ
bytes32 n = n % 256 ∷ n / 256 % 256 ∷ n / 65_536 % 256 ∷ n / 16_777_216 ∷ []

abbrev pub fields32 : List ℕ → List ℕ
fields32 [] = []
fields32 (n ∷ ns) = bytes32 n ++ fields32 ns

-- −n as an i32 has the bytes of the u32 2^32 − n
abbrev pub minus : ℕ → ℕ
minus n = 4_294_967_296 - n

-- mark, version 1, T and r
abbrev pub header_bytes : (horizon rate : ℕ) → List ℕ
header_bytes horizon rate = (82 ∷ 67 ∷ 83 ∷ 1 ∷ 0 ∷ bytes16 horizon) ++ bytes32 rate

-- the same of the longer sheet, version 2
abbrev pub long_header_bytes : (horizon rate : ℕ) → List ℕ
long_header_bytes horizon rate = (82 ∷ 67 ∷ 83 ∷ 2 ∷ 0 ∷ bytes16 horizon) ++ bytes32 rate

-- overhauls, each an age and an amount; and the count of them, with the eight entries behind it
abbrev pub entries_bytes : List (ℕ × ℕ) → List ℕ
entries_bytes [] = []
entries_bytes (o ∷ os) = bytes16 o.0 ++ bytes32 o.1 ++ entries_bytes os

abbrev pub overhauls_bytes : List (ℕ × ℕ) → List ℕ
overhauls_bytes os = (length os ∷ entries_bytes os) ++ replicate (48 - 6 * length os) 0

-- a record: its lives; investment and its f; maintenance, its f and g; electricity, its f and g; overhaul inflation; and its overhauls
abbrev pub record_bytes : (shortest longest : ℕ) (fields : List ℕ) → List (ℕ × ℕ) → List ℕ
record_bytes shortest longest fields os = bytes16 shortest ++ bytes16 longest ++ fields32 fields ++ overhauls_bytes os

-- what a record of the longer sheet ends with: a removal and its f
abbrev pub removal_bytes : (amount inflation : ℕ) → List ℕ
removal_bytes amount inflation = bytes32 amount ++ bytes32 inflation
