-- No refusal among the options before; among the overhauls before, and `last` is the age before entry j.
use mathlib.Core.Path.{◌≡◌}
use Rattle.base.specs.Answer.{accepted}
use Rattle.base.specs.Outcome.{place}
use Rattle.sheet.specs.Sheet.{sheet_of}
use Rattle.checking.specs.Refusals.{age_before, overhaul_answer, first_below, option_answer}
use Rattle.checking.proofs.check.Given as goal

abbrev pub invariant-loop-activity : goal.invariant-loop-activity
invariant-loop-activity l = first_below l.activity-index (option_answer (sheet_of l.sheet)) ≡ accepted 0

abbrev pub invariant-loop-j : goal.invariant-loop-j
invariant-loop-j l = record {
  last : l.last ≡ age_before ((sheet_of l.sheet).option (place l.activity)) l.j;
  before : first_below l.j (overhaul_answer ((sheet_of l.sheet).option (place l.activity)) (place l.activity)) ≡ accepted 0;
}
