-- `factor` is `factor_answer`: refused by the rate, or by the year, or the factor. Assumes nothing.
use mathlib.Core.Path.{ap, sym, ◌∙◌}
use native.Mathlib.Omega.{arith}
use Rattle.base.specs.Answer.{accepted}
use Rattle.yearbook.proofs.FactorLaws.{rate_refused, year-refused, both_accepted, factor_answers}
use Rattle.yearbook.proofs.factor.Goals as goal

pub returns-then-rate-gt-LARGEST_RATE : goal.returns-then-rate-gt-LARGEST_RATE
returns-then-rate-gt-LARGEST_RATE c =
    let held = factor_answers _ _ _ (sym (rate_refused _ _ (omega arith))) in
    record { answer = held.0; promised = held.1 }

pub returns-then-year-gt-LAST_YEAR : goal.returns-then-year-gt-LAST_YEAR
returns-then-year-gt-LAST_YEAR c =
    let held = factor_answers _ _ _ (sym (year-refused _ _ (omega arith) (omega arith))) in
    record { answer = held.0; promised = held.1 }

pub returns : goal.returns
returns c =
    let held = factor_answers _ _ _ (ap accepted c.worth.ensures ∙ sym (both_accepted _ _ (omega arith) (omega arith))) in
    record { answer = held.0; promised = held.1 }
