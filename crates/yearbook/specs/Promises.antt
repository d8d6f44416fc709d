-- What is owed of every call of the yearbook, for every rate and year: document 02, request 5. `PromisedFactor` has it all, and is an `ensures` of
-- the call and of its C form; a is what was answered. Definitions only.
use Rattle.std.specs.Prelude.{ℕ, ◌≤◌, ◌<◌, ◌≡◌, ◌↔◌}
use Rattle.base.specs.declared.Answer.{Answer}
use Rattle.factors.specs.PresentWorth.{largest_rate, present_worth, FactorNear}
use Rattle.yearbook.specs.Yearbook.{last_year}

pub record PromisedFactor (rate year : ℕ) (a : Answer) : Type 0 where
  -- accepted, refused with 4 and refused with 13, each exactly when
  pub accepted : (a.number ≡ 0) ↔ ((rate ≤ largest_rate) × (year ≤ last_year))
  pub four : (a.number ≡ 4) ↔ (largest_rate < rate)
  pub thirteen : (a.number ≡ 13) ↔ ((rate ≤ largest_rate) × (last_year < year))
  -- always option 3; with a refusal the factor is 0
  pub option : a.option ≡ 3
  pub total : (a.number ≡ 0 → ⊥) → a.total ≡ 0
  -- an accepted call has the factor, looked up or stepped, near its exact value
  pub worth : a.number ≡ 0 → a.total ≡ present_worth rate year
  pub near : a.number ≡ 0 → FactorNear rate year a.total
