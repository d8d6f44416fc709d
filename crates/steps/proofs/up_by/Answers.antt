-- By a divisor at hand the result is the same. Assumes nothing.
use native.Mathlib.Omega.{arith}
use Rattle.steps.specs.Step.{divided}
use Rattle.steps.proofs.up_by.Goals as goal

pub overflow_sub-d : goal.overflow_sub-d
overflow_sub-d c = omega (arith, c.args.d.positive)

pub overflow_add-n : goal.overflow_add-n
overflow_add-n c = omega (arith, c.args.d.small)

pub quotient-requires : goal.quotient-requires
quotient-requires c = omega (arith, c.args.d.small)

pub returns : goal.returns
unfolding divided
returns c = c.quotient.ensures
