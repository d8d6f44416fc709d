-- A plain step: its product fits in 64 bits. Assumes nothing.
use native.Mathlib.Omega.{arith}
use Rattle.steps.specs.Step.{plain}
use Rattle.steps.proofs.RoomLaws.{plain-room}
use Rattle.steps.proofs.Units.plain.Goals as goal

pub overflow_mul-self : goal.overflow_mul-self
overflow_mul-self c = omega (arith, plain-room _ _ _ c.requires)

pub up_by-requires : goal.up_by-requires
up_by-requires c = omega (arith, plain-room _ _ _ c.requires)

pub returns : goal.returns
unfolding plain
returns c = c.up_by.ensures
