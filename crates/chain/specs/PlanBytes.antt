-- The bytes of a plan: document 01, 'Feasible chains', its last paragraph. `encode` writes them, `decode` reads the chain back.
-- Definitions only.
use Rattle.std.specs.Prelude.{ℕ, zero, suc, ◌+◌, ◌*◌, ◌≤◌, ◌<◌, List, [], ◌∷◌, ◌++◌, length, get_or, Bool, ◌&&◌, leb, eqb, ◌≡◌}
use Rattle.base.specs.Lists.{Every}
use Rattle.base.specs.Numbers.{u16_at, bytes_of, number_at}
use Rattle.chain.specs.Chain.{Chain}

-- end years u16
unfoldable pub end_bytes : List ℕ → List ℕ
end_bytes [] = []
end_bytes (k ∷ ks) = bytes_of 2 k ++ end_bytes ks

-- mark `RCP`, version u16 = 1, total u64, i u16, j u16, m u16
unfoldable pub header : (total i j m : ℕ) → List ℕ
header total i j m = (82 ∷ 67 ∷ 80 ∷ []) ++ bytes_of 2 1 ++ bytes_of 8 total ++ bytes_of 2 i ++ bytes_of 2 j ++ bytes_of 2 m

-- a plan of m replacements has 19 + 2m bytes
abbrev pub plan_size : (m : ℕ) → ℕ
plan_size m = 19 + 2 * m

abbrev pub plan_length : Chain → ℕ
plan_length c = plan_size (length c.ends)

-- then m end years
unfoldable pub encode : (total : ℕ) → Chain → List ℕ
encode total c = header total c.i c.j (length c.ends) ++ end_bytes c.ends

-- the total field
abbrev pub total_field : List ℕ → ℕ
total_field plan = number_at plan 5 8

-- i, j and m, the number of replacements
abbrev pub i_field : List ℕ → ℕ
i_field plan = u16_at plan 13

abbrev pub j_field : List ℕ → ℕ
j_field plan = u16_at plan 15

abbrev pub count_field : List ℕ → ℕ
count_field plan = u16_at plan 17

-- the k-th end year, of which the first is at 0
abbrev pub end_field : List ℕ → (k : ℕ) → ℕ
end_field plan k = u16_at plan (19 + 2 * k)

-- that many end years from a place on
unfoldable pub ends_at : List ℕ → (at count : ℕ) → List ℕ
ends_at plan at zero = []
ends_at plan at (suc n) = u16_at plan at ∷ ends_at plan (at + 2) n

-- the chain in plan bytes: behind mark, version and total stand i, j, m and the ends
unfoldable pub decode : List ℕ → Chain
decode plan = record { i = u16_at plan 13; j = u16_at plan 15; ends = ends_at plan 19 (count_field plan) }

-- the length is not below 19 and just 19 + 2m, mark and version are right: as a test, and as facts
unfoldable pub shaped : List ℕ → Bool
shaped plan =
    leb 19 (length plan) && eqb (plan_size (count_field plan)) (length plan)
    && (eqb (get_or plan 0 0) 82 && eqb (get_or plan 1 0) 67 && eqb (get_or plan 2 0) 80)
    && eqb (u16_at plan 3) 1

pub record Shaped (plan : List ℕ) : Type 0 where
  pub enough : 19 ≤ length plan
  pub long : length plan ≡ plan_size (count_field plan)
  pub mark : (get_or plan 0 0 ≡ 82) × (get_or plan 1 0 ≡ 67) × (get_or plan 2 0 ≡ 80)
  pub version : u16_at plan 3 ≡ 1

-- a chain whose numbers fit in 16 bits
pub record Narrow (c : Chain) : Type 0 where
  pub first : c.i < 65_536
  pub second : c.j < 65_536
  pub count : length c.ends < 65_536
  pub years : Every (λ k. k < 65_536) c.ends
