-- The cases of cents, evaluated from the definitions that the contracts cite. Assumes nothing.
use mathlib.Core.Path.{refl}
use Rattle.base.specs.Cases.{AllHold}
use Rattle.sheet.specs.Sheet.{factor}
use Rattle.steps.specs.Step.{divided, repeated}
use Rattle.nominal.specs.Nominal.{risen, nominal_plain, nominal_in_service, cents}
use Rattle.nominal.specs.Cases.{cases_of_cents}

pub cents_cases_hold : AllHold cases_of_cents
unfolding factor divided repeated risen nominal_plain nominal_in_service cents
cents_cases_hold = (refl, (refl, (refl, (refl, (refl, (refl, (refl, (refl, tt))))))))
