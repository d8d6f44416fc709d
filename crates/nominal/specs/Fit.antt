-- What the code of cents asks so that 64 bits suffice. `SizeLaws.antt` derives it from the facts of the check: rate by rate an amount could
-- be 1,640 times as large after 15 years, but check 8 holds inflation and ageing together below the discount rate. Definitions only.
use Rattle.std.specs.Prelude.{ℕ, zero, suc, ◌+◌, ◌*◌, ◌/◌, ◌≤◌}

-- the most that 10^9 currency units can be after k years: each year at most 1.26 times as much, and 3.46 cents for the roundings
abbrev pub most_cents : ℕ → ℕ
most_cents zero = 100_000_000_000
most_cents (suc k) = (126 * most_cents k + 346) / 100

-- what that is after 15 years
abbrev pub largest_cents : ℕ
largest_cents = 3_203_009_131_581

-- a step: the factors, and an amount that leaves room
pub record CentsFit (general grow a : ℕ) : Type 0 where
  pub inflation : general ≤ 1_050_000
  pub grown : grow ≤ 1_200_000
  pub room : a ≤ largest_cents
