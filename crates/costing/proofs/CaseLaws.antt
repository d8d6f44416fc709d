-- Cases 6 to 8 of document 01, and further cases of costing, evaluated from the definitions that the contracts cite. Assumes nothing.
use mathlib.Core.Path.{refl}
use Rattle.base.specs.Lists.{sum_of}
use Rattle.base.specs.Numbers.{u16_at, u32_at, i32_at}
use Rattle.base.specs.Answer.{◌unless◌else◌}
use Rattle.base.specs.Cases.{AllHold}
use Rattle.sheet.specs.Layout.{record_length}
use Rattle.sheet.specs.Sheet.{expense_at, once_at, overhaul_at, removal_at, option_at, sheet_of, factor}
use Rattle.sheet.specs.Parsed.{flow_of, overhauls_of, terms_of}
use Rattle.checking.specs.Refusals.{inflation_ok, inflations_ok, ageing_ok, ageings_ok, age_before, overhaul_ok, header_number, fields_number, overhaul_answer, first_below, option_answer, checked}
use Rattle.steps.specs.Step.{divided, plain, in_service, repeated}
use Rattle.steps.specs.Payment.{rounded, once}
use Rattle.costing.specs.Arc.{since_of, arc_of, in_year, investment, maintenance, electricity, age_of, overhaul, for_each, paid_if, overhauls_below, paid, removal, closing, payments, cost}
use Rattle.costing.specs.Offered.{offered}
use Rattle.costing.specs.Costing.{costing, costed}
use Rattle.costing.specs.Cases.{cases_six_to_eight, cases_of_arcs, cases_of_motors, cases_of_removal, cases_of_thirteen}

-- all lists at once, by the same definitions
cases_hold : AllHold cases_six_to_eight × AllHold cases_of_arcs × AllHold cases_of_motors × AllHold cases_of_removal × AllHold cases_of_thirteen
unfolding u16_at u32_at i32_at record_length expense_at once_at overhaul_at removal_at option_at sheet_of factor flow_of overhauls_of terms_of ◌unless◌else◌ inflation_ok inflations_ok ageing_ok ageings_ok age_before overhaul_ok header_number fields_number overhaul_answer first_below option_answer checked divided plain in_service repeated rounded sum_of since_of arc_of once in_year investment maintenance electricity age_of overhaul for_each paid_if overhauls_below paid removal closing payments cost offered costing costed
cases_hold = (
  (refl, (refl, (refl, tt))),
  (refl, (refl, (refl, tt))),
  (refl, (refl, (refl, (refl, (refl, tt))))),
  (refl, (refl, (refl, (refl, (refl, (refl, (refl, (refl, (refl, (refl, (refl, (refl, (refl, (refl, tt)))))))))))))),
  (refl, (refl, (refl, (refl, (refl, (refl, (refl, (refl, (refl, (refl, (refl, (refl, (refl, (refl, (refl, (refl, (refl, (refl, tt)))))))))))))))))),
)

pub arc_cases_hold : AllHold cases_six_to_eight
arc_cases_hold = cases_hold.0

pub distinct_cases_hold : AllHold cases_of_arcs
distinct_cases_hold = cases_hold.1

pub motor_cases_hold : AllHold cases_of_motors
motor_cases_hold = cases_hold.2

pub removal_cases_hold : AllHold cases_of_removal
removal_cases_hold = cases_hold.3

pub thirteen_cases_hold : AllHold cases_of_thirteen
thirteen_cases_hold = cases_hold.4
