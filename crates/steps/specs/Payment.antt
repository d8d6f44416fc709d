-- A payment, what it is worth in units, and an amount paid once. Definitions only.
use Rattle.std.specs.Prelude.{ℕ, ◌+◌, ◌*◌}
use Rattle.steps.specs.Step.{plain, in_service, repeated}

-- an amount in currency units at the price level of year 0, the factors of its rates, and the steps that move it to the year in which it
-- is paid: first the plain ones, then those in service
pub record Payment : Type 0 where
  pub amount : ℕ
  pub grow : ℕ
  pub age : ℕ
  pub plainly : ℕ
  pub served : ℕ

-- the year in which it is paid
unfoldable pub year : Payment → ℕ
year p = p.plainly + p.served

-- its present value: it starts as its amount × 10,000 units and is rounded at each step
unfoldable pub rounded : (discount : ℕ) → Payment → ℕ
rounded discount p =
    repeated p.served (in_service p.grow p.age discount)
    (repeated p.plainly (plain p.grow discount) (p.amount * 10_000))

-- an amount paid once, in a year
unfoldable pub once : (amount grow year : ℕ) → Payment
once amount grow year = record { amount = amount; grow = grow; age = 1_000_000; plainly = year; served = 0 }
