-- The cases of the budget, evaluated from the definitions that the contracts cite. Assumes nothing.
use mathlib.Core.Path.{refl}
use Rattle.base.specs.Lists.{sum_of}
use Rattle.base.specs.Numbers.{u16_at, u32_at, i32_at, number_at}
use Rattle.base.specs.Answer.{◌unless◌else◌}
use Rattle.base.specs.Cases.{AllHold}
use Rattle.sheet.specs.Layout.{record_length}
use Rattle.sheet.specs.Sheet.{expense_at, once_at, overhaul_at, removal_at, option_at, sheet_of, factor}
use Rattle.sheet.specs.Parsed.{flow_of, overhauls_of, terms_of}
use Rattle.checking.specs.Refusals.{inflation_ok, inflations_ok, ageing_ok, ageings_ok, age_before, overhaul_ok, header_number, fields_number, overhaul_answer, first_below, option_answer, checked}
use Rattle.steps.specs.Step.{divided, plain, in_service, repeated}
use Rattle.steps.specs.Payment.{year, rounded, once}
use Rattle.costing.specs.Arc.{since_of, arc_of, in_year, investment, maintenance, electricity, age_of, overhaul, for_each, paid_if, overhauls_below, paid, removal, closing, payments, cost}
use Rattle.costing.specs.Offered.{offered}
use Rattle.chain.specs.Chain.{replacements, activities, arcs_of, rounded_total}
use Rattle.chain.specs.PlanBytes.{ends_at, decode, shaped}
use Rattle.pricing.specs.Fitting.{reaches, feasible, fitting}
use Rattle.pricing.specs.Pricing.{pricing, priced}
use Rattle.nominal.specs.Nominal.{risen, nominal_plain, nominal_in_service, cents}
use Rattle.spreading.specs.Fallen.{in_only}
use Rattle.budget.specs.Budget.{payments_of, units_in, units_of, cents_in, cents_of, budget_number, budget_answer, units_after, cents_after}
use Rattle.budget.specs.Cases.{cases_of_words, cases_of_refusals}

-- both lists at once, by the same definitions
cases_hold : AllHold cases_of_words × AllHold cases_of_refusals
unfolding u16_at u32_at i32_at number_at record_length expense_at once_at overhaul_at removal_at option_at sheet_of factor flow_of overhauls_of terms_of ◌unless◌else◌ inflation_ok inflations_ok ageing_ok ageings_ok age_before overhaul_ok header_number fields_number overhaul_answer first_below option_answer checked sum_of divided plain in_service repeated year rounded since_of arc_of once in_year investment maintenance electricity age_of overhaul for_each paid_if overhauls_below paid removal closing payments cost offered replacements activities arcs_of rounded_total ends_at decode shaped reaches feasible fitting pricing priced risen nominal_plain nominal_in_service cents in_only payments_of units_in units_of cents_in cents_of budget_number budget_answer units_after cents_after
cases_hold = (
  (refl, (refl, (refl, (refl, (refl, (refl, (refl, (refl, (refl, (refl, (refl, (refl, (refl, (refl, (refl, (refl, tt)))))))))))))))),
  (refl, (refl, (refl, (refl, (refl, (refl, (refl, (refl, (refl, (refl, (refl, (refl, tt)))))))))))),
)

pub word_cases_hold : AllHold cases_of_words
word_cases_hold = cases_hold.0

pub refusal_cases_hold : AllHold cases_of_refusals
refusal_cases_hold = cases_hold.1
