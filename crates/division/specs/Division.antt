-- What a divisor asks of its reciprocal. Definitions only.
use Rattle.std.specs.Prelude.{◌+◌, ◌*◌, ◌^◌, ◌≤◌, ◌<◌, ◌≡◌, ◌⊎◌}
use Rattle.division.specs.declared.Divisor.{Divisor}

-- the reciprocal times the divisor is 2^83 or more, by half a divisor at most
pub record Above (d : Divisor) : Type 0 where
  pub exact : d.more ≡ 0
  pub low : 2 ^ 83 ≤ d.inverse * d.by
  pub high : 2 * (d.inverse * d.by) ≤ 2 * 2 ^ 83 + d.by

-- or less, by half a divisor at most
pub record Below (d : Divisor) : Type 0 where
  pub more : d.more ≡ 1
  pub high : d.inverse * d.by < 2 ^ 83
  pub low : 2 * 2 ^ 83 ≤ 2 * (d.inverse * d.by) + d.by

-- a divisor that is ready to divide: it is not 0, at most 1,200,000, and its reciprocal is near
pub record DivisorReady (d : Divisor) : Type 0 where
  pub positive : 0 < d.by
  pub small : d.by ≤ 1_200_000
  pub near : Above d ⊎ Below d
