-- A step in service: both products fit in 64 bits, the second by what the first division gives. Assumes nothing.
use Prim.Native.Nat.{ℕ, ◌*◌}
use mathlib.Core.Path.{ap, ◌∙◌}
use native.Mathlib.Omega.{arith}
use Rattle.steps.specs.Step.{divided, plain, in_service}
use Rattle.steps.proofs.RoomLaws.{age_room, aged_fits}
use Rattle.steps.proofs.Units.in_service.Goals as goal

pub returns : goal.returns
unfolding in_service plain
returns c =
    let a = c.args in
    c.up_by.ensures ∙ ap (λ (aged : ℕ). divided (aged * a.grow) a.discount.by) c.up-aged.ensures

pub overflow_mul-self : goal.overflow_mul-self
overflow_mul-self c = omega (arith, age_room _ _ _ _ c.requires)

pub up-aged-requires : goal.up-aged-requires
up-aged-requires c = (omega arith, omega arith, omega (arith, age_room _ _ _ _ c.requires))

pub overflow_mul-aged : goal.overflow_mul-aged
overflow_mul-aged c = rw c.up-aged.ensures (omega (arith, aged_fits _ _ _ _ c.requires))

pub up_by-requires : goal.up_by-requires
up_by-requires c = rw c.up-aged.ensures (omega (arith, aged_fits _ _ _ _ c.requires))
