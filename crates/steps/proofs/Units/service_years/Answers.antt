-- The answers that no tactic finds.
use mathlib.Core.Path.{◌≡◌, refl, ◌∙◌}
use native.Mathlib.Omega.{arith}
use native.Mathlib.Numerals.{add-one}
use Rattle.steps.specs.Step.{repeated}
use Rattle.steps.proofs.RoomLaws.{services_fit}
use Rattle.steps.proofs.Units.service_years.Goals as goal

pub loop-k-init : goal.loop-k-init
unfolding repeated
loop-k-init c = (omega arith, refl)

pub in_service-now-requires : goal.in_service-now-requires
in_service-now-requires c = rw c.loop-k.invariant.1 (services_fit _ _ _ _ _ _ c.requires c.loop-k.invariant.0)

pub loop-k-preserved : goal.loop-k-preserved
unfolding repeated
loop-k-preserved c = (omega arith, c.in_service-now.ensures ∙ rw (add-one, c.loop-k.invariant.1))

pub returns : goal.returns
returns c =
    let e : c.loop-k.k ≡ c.args.years = omega arith in
    rw (← e) c.loop-k.invariant.1
