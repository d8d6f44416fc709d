-- The cases of the yearbook, evaluated from the definitions that the contracts cite. Assumes nothing.
use mathlib.Core.Path.{refl}
use Rattle.base.specs.Answer.{◌unless◌else◌}
use Rattle.base.specs.Cases.{AllHold}
use Rattle.steps.specs.Step.{divided, plain, repeated}
use Rattle.factors.specs.PresentWorth.{present_worth}
use Rattle.yearbook.specs.Yearbook.{factor_number, factor_answer}
use Rattle.yearbook.specs.Cases.{cases_of_factors}

pub factor_cases_hold : AllHold cases_of_factors
unfolding ◌unless◌else◌ divided plain repeated present_worth factor_number factor_answer
factor_cases_hold = (refl, (refl, (refl, (refl, (refl, (refl, (refl, (refl, tt))))))))
