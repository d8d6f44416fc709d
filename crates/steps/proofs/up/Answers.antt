-- `up` is `divided`: the dividend leaves room for the divisor. Assumes nothing.
use mathlib.Core.Path.{refl}
use Rattle.steps.specs.Step.{divided}
use Rattle.steps.proofs.up.Goals as goal

pub returns : goal.returns
unfolding divided
returns c = refl
