-- What is printed of sheets, evaluated from the definitions that the contracts cite: case 12 as document 01 prints it, and refusals.
-- Assumes nothing.
use mathlib.Core.Path.{refl}
use Rattle.base.specs.Lists.{sum_of}
use Rattle.base.specs.Numbers.{u16_at, u32_at, i32_at, bytes_of, number_at}
use Rattle.base.specs.Answer.{◌unless◌else◌}
use Rattle.base.specs.Cases.{AllHold}
use Rattle.sheet.specs.Layout.{record_length}
use Rattle.sheet.specs.Sheet.{expense_at, once_at, overhaul_at, removal_at, option_at, sheet_of, factor}
use Rattle.sheet.specs.Parsed.{flow_of, overhauls_of, terms_of}
use Rattle.checking.specs.Refusals.{inflation_ok, inflations_ok, ageing_ok, ageings_ok, age_before, overhaul_ok, header_number, fields_number, overhaul_answer, first_below, option_answer, checked}
use Rattle.steps.specs.Step.{divided, plain, in_service, repeated}
use Rattle.steps.specs.Payment.{rounded, once}
use Rattle.costing.specs.Arc.{since_of, arc_of, in_year, investment, maintenance, electricity, age_of, overhaul, for_each, paid_if, overhauls_below, paid, removal, closing, payments, cost}
use Rattle.costing.specs.Offered.{offered}
use Rattle.choice.specs.Running.{weigh, over_ends}
use Rattle.choice.specs.Table.{table, entry}
use Rattle.chain.specs.Chain.{replacements, activities}
use Rattle.chain.specs.PlanBytes.{end_bytes, header, encode, ends_at, decode}
use Rattle.tails.specs.Tail.{best_end, tail_from}
use Rattle.front.specs.Planned.{renovated, planned}
use Rattle.planning.specs.Planning.{planning, plan_answer, plan_after}
use Rattle.lines.specs.Lines.{places, digits, decimal, line, pair_line, activity_lines, plan_lines}
use Rattle.printing.specs.Showing.{printed, shown}
use Rattle.printing.specs.Cases.{cases_of_printing}

pub printing_cases_hold : AllHold cases_of_printing
unfolding u16_at u32_at i32_at record_length expense_at once_at overhaul_at removal_at option_at sheet_of factor flow_of overhauls_of terms_of ◌unless◌else◌ inflation_ok inflations_ok ageing_ok ageings_ok age_before overhaul_ok header_number fields_number overhaul_answer first_below option_answer checked sum_of divided plain in_service repeated rounded since_of arc_of once in_year investment maintenance electricity age_of overhaul for_each paid_if overhauls_below paid removal closing payments cost offered bytes_of number_at end_bytes header encode ends_at decode replacements activities weigh over_ends table entry best_end tail_from renovated planned planning plan_answer plan_after places digits decimal line pair_line activity_lines plan_lines printed shown
printing_cases_hold = (refl, (refl, (refl, tt)))
