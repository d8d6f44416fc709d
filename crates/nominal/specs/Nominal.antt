-- An amount in money of the year in which it is paid, in cents: document 02, request 2. A rate is given by its factor in millionths: general =
-- 1,000,000 + general inflation, grow = 1,000,000 + f, age = 1,000,000 + g. Nothing is discounted. Definitions only.
use Rattle.std.specs.Prelude.{ℕ, ◌*◌}
use Rattle.steps.specs.Step.{divided, repeated}
use Rattle.steps.specs.Payment.{Payment}

-- after each rate the result is rounded up to a whole cent
unfoldable pub risen : (factor a : ℕ) → ℕ
risen factor a = divided (a * factor) 1_000_000

-- a plain step multiplies by general inflation and then by its own inflation
unfoldable pub nominal_plain : (general grow a : ℕ) → ℕ
nominal_plain general grow a = risen grow (risen general a)

-- an in-service step multiplies by ageing first
unfoldable pub nominal_in_service : (general grow age a : ℕ) → ℕ
nominal_in_service general grow age a = nominal_plain general grow (risen age a)

-- a payment starts at amount × 100, and takes the steps that it takes in units
unfoldable pub cents : (general : ℕ) → Payment → ℕ
cents general p =
    repeated p.served (nominal_in_service general p.grow p.age)
    (repeated p.plainly (nominal_plain general p.grow) (p.amount * 100))

-- the last year that is counted in money of the year
abbrev pub last_nominal : ℕ
last_nominal = 15
