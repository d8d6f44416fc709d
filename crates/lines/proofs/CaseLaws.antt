-- Lines, evaluated from the definitions that the contracts cite: numbers of one digit, of two and of twenty, and a plan without replacements.
-- Assumes nothing.
use mathlib.Core.Path.{refl}
use Rattle.base.specs.Cases.{AllHold}
use Rattle.chain.specs.Chain.{replacements, activities}
use Rattle.lines.specs.Lines.{places, digits, decimal, line, pair_line, activity_lines, plan_lines}
use Rattle.lines.specs.Cases.{cases_of_lines}

pub line_cases_hold : AllHold cases_of_lines
unfolding replacements activities places digits decimal line pair_line activity_lines plan_lines
line_cases_hold = (refl, (refl, (refl, (refl, (refl, tt)))))
