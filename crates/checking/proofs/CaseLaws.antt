-- The cases of checking, evaluated from the definitions that the contracts cite. Assumes nothing.
use mathlib.Core.Path.{refl}
use Rattle.base.specs.Numbers.{u16_at, u32_at, i32_at}
use Rattle.base.specs.Answer.{◌unless◌else◌}
use Rattle.base.specs.Cases.{AllHold}
use Rattle.sheet.specs.Layout.{record_length}
use Rattle.sheet.specs.Sheet.{expense_at, once_at, overhaul_at, removal_at, option_at, sheet_of, factor}
use Rattle.checking.specs.Refusals.{inflation_ok, inflations_ok, ageing_ok, ageings_ok, age_before, overhaul_ok, header_number, fields_number, overhaul_answer, first_below, option_answer, checked}
use Rattle.checking.specs.Cases.{cases_of_checking, cases_of_order, cases_of_long}

-- all lists at once, by the same definitions
cases_hold : AllHold cases_of_checking × AllHold cases_of_order × AllHold cases_of_long
unfolding u16_at u32_at i32_at record_length expense_at once_at overhaul_at removal_at option_at sheet_of factor ◌unless◌else◌ inflation_ok inflations_ok ageing_ok ageings_ok age_before overhaul_ok header_number fields_number overhaul_answer first_below option_answer checked
cases_hold = (
  (refl, (refl, (refl, (refl, (refl, (refl, (refl, (refl, (refl, (refl, (refl, (refl, (refl, (refl, (refl, (refl, (refl, (refl, (refl, (refl, (refl, (refl, (refl, (refl, tt)))))))))))))))))))))))),
  (refl, (refl, (refl, (refl, (refl, (refl, (refl, (refl, (refl, (refl, (refl, (refl, (refl, (refl, (refl, (refl, tt)))))))))))))))),
  (refl, (refl, (refl, (refl, (refl, (refl, (refl, (refl, (refl, (refl, (refl, (refl, (refl, (refl, (refl, (refl, tt)))))))))))))))),
)

pub checking_cases_hold : AllHold cases_of_checking
checking_cases_hold = cases_hold.0

pub order_cases_hold : AllHold cases_of_order
order_cases_hold = cases_hold.1

pub long_cases_hold : AllHold cases_of_long
long_cases_hold = cases_hold.2
