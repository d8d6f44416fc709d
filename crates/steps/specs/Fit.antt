-- What the code of the steps asks so that 64 bits suffice. `RoomLaws.antt` shows that steps keep it. Definitions only.
use Rattle.std.specs.Prelude.{ℕ, ◌*◌, ◌≤◌, ◌<◌, ◌≡◌}
use Rattle.division.specs.Division.{DivisorReady}
use Rattle.division.specs.declared.Divisor.{Divisor}
use Rattle.steps.specs.Payment.{Payment, year}

-- the most that one payment can be: 10^9 currency units, and a unit for each of 600 steps in service, which is more than an arc takes
abbrev pub largest_payment : ℕ
largest_payment = 10_000_000_000_600

-- a plain step: the discount is at least 10^6 and the growth at most the discount; the amount leaves room
pub record PlainFits (grow discount a : ℕ) : Type 0 where
  pub low : 1_000_000 ≤ discount
  pub high : discount ≤ 1_200_000
  pub grown : grow ≤ discount
  pub room : a ≤ largest_payment

-- a step in service: besides, growth and ageing together do not exceed the discount
pub record ServiceFits (grow age discount a : ℕ) : Type 0 where
  pub plainly : PlainFits grow discount a
  pub aged : age ≤ 1_300_000
  pub product : grow * age ≤ 1_000_000 * discount

-- the divisor that the code has at hand for a discount factor
pub record Divides (d : Divisor) (discount : ℕ) : Type 0 where
  pub ready : DivisorReady d
  pub number : d.by ≡ discount

-- what the checks give of a payment's factors
pub record Rates (discount : ℕ) (p : Payment) : Type 0 where
  pub positive : 0 < discount
  pub grown : p.grow ≤ discount
  pub product : p.grow * p.age ≤ 1_000_000 * discount

-- a payment that falls by the horizon, with factors that pass the checks
pub record Sound (horizon discount : ℕ) (p : Payment) : Type 0 where
  pub rates : Rates discount p
  pub by : year p ≤ horizon
