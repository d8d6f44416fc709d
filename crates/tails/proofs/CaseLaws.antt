-- The cases of the words, evaluated from the definitions that the contracts cite. Assumes nothing.
use mathlib.Core.Path.{refl}
use Rattle.base.specs.Lists.{sum_of}
use Rattle.base.specs.Numbers.{u16_at, u32_at, i32_at}
use Rattle.base.specs.Cases.{AllHold}
use Rattle.sheet.specs.Layout.{record_length}
use Rattle.sheet.specs.Sheet.{expense_at, once_at, overhaul_at, removal_at, option_at, sheet_of, factor}
use Rattle.sheet.specs.Parsed.{flow_of, overhauls_of, terms_of}
use Rattle.steps.specs.Step.{divided, plain, in_service, repeated}
use Rattle.steps.specs.Payment.{rounded, once}
use Rattle.costing.specs.Arc.{since_of, arc_of, in_year, investment, maintenance, electricity, age_of, overhaul, for_each, paid_if, overhauls_below, paid, removal, closing, payments, cost}
use Rattle.costing.specs.Offered.{offered}
use Rattle.choice.specs.Running.{weigh, over_ends}
use Rattle.choice.specs.Table.{table}
use Rattle.tails.specs.Tail.{best_end}
use Rattle.tails.specs.Words.{tails}
use Rattle.tails.specs.Cases.{cases_of_tails}

pub tail_cases_hold : AllHold cases_of_tails
unfolding u16_at u32_at i32_at record_length expense_at once_at overhaul_at removal_at option_at sheet_of factor flow_of overhauls_of terms_of sum_of divided plain in_service repeated rounded since_of arc_of once in_year investment maintenance electricity age_of overhaul for_each paid_if overhauls_below paid removal closing payments cost offered weigh over_ends table best_end tails
tail_cases_hold = (refl, (refl, (refl, (refl, (refl, (refl, tt))))))
