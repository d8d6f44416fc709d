-- The cases of factors, evaluated from the definition that the contracts cite. Assumes nothing.
use mathlib.Core.Path.{refl}
use Rattle.base.specs.Cases.{AllHold}
use Rattle.steps.specs.Step.{divided, plain, repeated}
use Rattle.factors.specs.PresentWorth.{present_worth}
use Rattle.factors.specs.Cases.{cases_of_worth}

pub worth_cases_hold : AllHold cases_of_worth
unfolding divided plain repeated present_worth
worth_cases_hold = (refl, (refl, (refl, (refl, (refl, (refl, (refl, (refl, (refl, (refl, tt))))))))))
