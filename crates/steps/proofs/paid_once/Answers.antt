-- An amount paid once: plain steps from amount × 10,000 units, and none in service. Assumes nothing.
use Rattle.steps.specs.Step.{repeated}
use Rattle.steps.specs.Payment.{rounded, once}
use Rattle.steps.proofs.paid_once.Goals as goal

pub returns : goal.returns
unfolding rounded once repeated
returns c = c.plain_years.ensures
