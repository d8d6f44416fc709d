-- The answers that no tactic finds.
use mathlib.Core.Path.{◌≡◌, refl, ◌∙◌}
use native.Mathlib.Omega.{arith}
use native.Mathlib.Numerals.{add-one}
use Rattle.steps.specs.Step.{repeated}
use Rattle.steps.proofs.RoomLaws.{plains_fit}
use Rattle.steps.proofs.Units.plain_years.Goals as goal

pub loop-k-init : goal.loop-k-init
unfolding repeated
loop-k-init c = (omega arith, refl)

pub plain-now-requires : goal.plain-now-requires
plain-now-requires c = rw c.loop-k.invariant.1 (plains_fit _ _ _ _ c.requires)

pub loop-k-preserved : goal.loop-k-preserved
unfolding repeated
loop-k-preserved c = (omega arith, c.plain-now.ensures ∙ rw (add-one, c.loop-k.invariant.1))

pub returns : goal.returns
returns c =
    let e : c.loop-k.k ≡ c.args.years = omega arith in
    rw (← e) c.loop-k.invariant.1
