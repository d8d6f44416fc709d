-- The sheets of the cases of checking: one that passes with its fields at their limits, the longer one of the same records with removals, and these
-- with a field or two changed. The bytes and places are written out. Definitions only.
use Rattle.std.specs.Prelude.{ℕ, ◌+◌, ◌*◌, List, [], ◌∷◌, ◌++◌, map}
use Rattle.std.proofs.lemmas.List.Edits.{sets}
use Rattle.sheet.specs.CaseBytes.{bytes16, bytes32, minus, header_bytes, long_header_bytes, record_bytes, removal_bytes}

-- the places of version, T and r
abbrev pub version_at : ℕ
version_at = 3

abbrev pub horizon_at : ℕ
horizon_at = 5

abbrev pub rate_at : ℕ
rate_at = 7

-- the place of option k's record, which begins with the lives, and of each field behind them
abbrev pub record_at : (k : ℕ) → ℕ
record_at k = 11 + 89 * k

abbrev pub investment_at : (k : ℕ) → ℕ
investment_at k = record_at k + 4

abbrev pub investment_inflation_at : (k : ℕ) → ℕ
investment_inflation_at k = record_at k + 8

abbrev pub maintenance_at : (k : ℕ) → ℕ
maintenance_at k = record_at k + 12

abbrev pub maintenance_inflation_at : (k : ℕ) → ℕ
maintenance_inflation_at k = record_at k + 16

abbrev pub maintenance_ageing_at : (k : ℕ) → ℕ
maintenance_ageing_at k = record_at k + 20

abbrev pub electricity_at : (k : ℕ) → ℕ
electricity_at k = record_at k + 24

abbrev pub electricity_inflation_at : (k : ℕ) → ℕ
electricity_inflation_at k = record_at k + 28

abbrev pub electricity_ageing_at : (k : ℕ) → ℕ
electricity_ageing_at k = record_at k + 32

abbrev pub overhaul_inflation_at : (k : ℕ) → ℕ
overhaul_inflation_at k = record_at k + 36

abbrev pub overhaul_count_at : (k : ℕ) → ℕ
overhaul_count_at k = record_at k + 40

-- the places of its overhaul j
abbrev pub age_at : (k j : ℕ) → ℕ
age_at k j = record_at k + 41 + 6 * j

abbrev pub amount_at : (k j : ℕ) → ℕ
amount_at k j = record_at k + 43 + 6 * j

-- the places of its amounts, of its inflations and of its ageings
abbrev pub amounts_at : (k : ℕ) → List ℕ
amounts_at k = investment_at k ∷ maintenance_at k ∷ electricity_at k ∷ []

abbrev pub inflations_at : (k : ℕ) → List ℕ
inflations_at k = investment_inflation_at k ∷ maintenance_inflation_at k ∷ electricity_inflation_at k ∷ overhaul_inflation_at k ∷ []

abbrev pub ageings_at : (k : ℕ) → List ℕ
ageings_at k = maintenance_ageing_at k ∷ electricity_ageing_at k ∷ []

-- Three records for a sheet with r 40,000, each field at a limit: the largest lives, amounts and inflations, and eight overhauls; the
-- smallest, with the most ageing that goes with f −100,000; and, not offered, the most ageing that goes with f 0.
abbrev pub largest : List ℕ
largest =
    let most : ℕ = 1_000_000_000 in
    let f : ℕ = 40_000 in
    record_bytes 1 120 (most ∷ f ∷ most ∷ f ∷ 0 ∷ most ∷ f ∷ 0 ∷ f ∷ [])
    ((1, most) ∷ (2, most) ∷ (3, most) ∷ (4, most) ∷ (5, most) ∷ (6, most) ∷ (7, most) ∷ (119, most) ∷ [])

abbrev pub smallest : List ℕ
smallest = let f : ℕ = minus 100_000 in record_bytes 1 1 (0 ∷ f ∷ 0 ∷ f ∷ 155_555 ∷ 0 ∷ f ∷ 155_555 ∷ f ∷ []) []

abbrev pub not_offered : List ℕ
not_offered = record_bytes 0 0 (1 ∷ 0 ∷ 2 ∷ 0 ∷ 40_000 ∷ 3 ∷ 0 ∷ 40_000 ∷ 0 ∷ []) ((118, 4) ∷ (119, 5) ∷ [])

-- the sheet: T 300, and maintain, renovate and replace with these records
abbrev pub limits : List ℕ
limits = header_bytes 300 40_000 ++ largest ++ smallest ++ not_offered

-- that sheet with another number in one field
abbrev pub put8 : (place number : ℕ) → List ℕ
put8 place number = sets limits place (number ∷ [])

abbrev pub put16 : (place number : ℕ) → List ℕ
put16 place number = sets limits place (bytes16 number)

abbrev pub put32 : (place number : ℕ) → List ℕ
put32 place number = sets limits place (bytes32 number)

abbrev pub put_lives : (k shortest longest : ℕ) → List ℕ
put_lives k shortest longest = sets limits (record_at k) (bytes16 shortest ++ bytes16 longest)

-- one sheet for each of some fields, which has that number there
abbrev pub put_each : (places : List ℕ) (number : ℕ) → List (List ℕ)
put_each places number = map (λ place. put32 place number) places

-- two fields changed
abbrev pub put_both : (place number other other_number : ℕ) → List ℕ
put_both place number other other_number = sets (put32 other other_number) place (bytes32 number)

-- r 200,000 and an ageing of renovate: with f −100,000 the product allows ageings up to 333,333
abbrev pub aged : (place number : ℕ) → List ℕ
aged place number = put_both rate_at 200_000 place number

-- the longer sheet: version 2, and the same records with removals, of 10^9 with f 40,000, of 0 with f −100,000, and of 6 with f 0
abbrev pub long_limits : List ℕ
long_limits =
    long_header_bytes 300 40_000
    ++ largest
    ++ removal_bytes 1_000_000_000 40_000
    ++ smallest
    ++ removal_bytes 0 (minus 100_000)
    ++ not_offered
    ++ removal_bytes 6 0

-- the places of option k's record in it, and of its removal and the inflation of that
abbrev pub long_record_at : (k : ℕ) → ℕ
long_record_at k = 11 + 97 * k

abbrev pub removal_place : (k : ℕ) → ℕ
removal_place k = long_record_at k + 89

abbrev pub removal_inflation_place : (k : ℕ) → ℕ
removal_inflation_place k = long_record_at k + 93

-- that sheet with other bytes from a place on, and with others from a second place on
abbrev pub long_with : (place : ℕ) (bytes : List ℕ) → List ℕ
long_with place bytes = sets long_limits place bytes

abbrev pub long_both : (place : ℕ) (bytes : List ℕ) (other : ℕ) (other_bytes : List ℕ) → List ℕ
long_both place bytes other other_bytes = sets (long_with other other_bytes) place bytes
