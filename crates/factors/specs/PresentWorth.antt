-- Present-worth factors: document 02, request 5. Definitions only.
use Rattle.std.specs.Prelude.{ℕ, ◌+◌, ◌*◌, ◌^◌, ◌≤◌}
use Rattle.steps.specs.Step.{plain, repeated}

-- the highest rate that has factors, in millionths a year
abbrev pub largest_rate : ℕ
largest_rate = 200_000

-- the factor of year 0, which stands for 1
abbrev pub at_once : ℕ
at_once = 1_000_000_000_000

-- a plain step with f 0
abbrev pub discounted : (rate a : ℕ) → ℕ
discounted rate a = plain 1_000_000 (1_000_000 + rate) a

-- The present-worth factor, which document 02 calls a factor, for a rate and a year: 10^12 after that many plain steps with f 0.
unfoldable pub present_worth : (rate year : ℕ) → ℕ
present_worth rate year = repeated year (discounted rate) at_once

-- A factor against its exact value, 10^12 × (10^6 / (10^6 + rate))^year, both multiplied by (10^6 + rate)^year: never below it, and at most one
-- for each year above it.
pub record FactorNear (rate year factor : ℕ) : Type 0 where
  pub low : at_once * 1_000_000 ^ year ≤ factor * (1_000_000 + rate) ^ year
  pub high : factor * (1_000_000 + rate) ^ year ≤ at_once * 1_000_000 ^ year + year * (1_000_000 + rate) ^ year
