-- The cases of steps, evaluated from the definitions that the contracts cite. Assumes nothing.
use mathlib.Core.Path.{refl}
use Rattle.base.specs.Cases.{AllHold}
use Rattle.sheet.specs.Sheet.{factor}
use Rattle.steps.specs.Step.{divided, plain, in_service, repeated}
use Rattle.steps.specs.Payment.{rounded, once}
use Rattle.steps.specs.Cases.{cases_one_to_five, cases_of_rounding, cases_of_payments}

pub step_cases_hold : AllHold cases_one_to_five
unfolding factor divided plain in_service
step_cases_hold = (refl, (refl, (refl, (refl, (refl, tt)))))

pub rounding_cases_hold : AllHold cases_of_rounding
unfolding factor divided plain in_service
rounding_cases_hold = (refl, (refl, (refl, (refl, tt))))

pub payment_cases_hold : AllHold cases_of_payments
unfolding factor divided plain in_service repeated rounded once
payment_cases_hold = (refl, (refl, tt))
