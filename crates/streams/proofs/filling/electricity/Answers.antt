-- The stream of electricity: in service since year 0 where the motors are kept, else new in each year. Assumes nothing.
use mathlib.Core.Path.{sym, ◌∙◌}
use native.Mathlib.Omega.{arith}
use Rattle.std.proofs.Common.{rules}
use Rattle.steps.specs.Fit.{ServiceFits}
use Rattle.costing.proofs.SizeLaws.{in_year_fits}
use Rattle.streams.specs.Streams.{start_in}
use Rattle.streams.proofs.FillLaws.{reached_figure, filled_by, served_zero, served_suc, power_kept, power_new}
use Rattle.streams.proofs.filling.electricity.Goals as goal

pub stepped-requires-clause-steps : goal.stepped-requires-clause-steps
stepped-requires-clause-steps c y v l r =
    let d = c.args.discount.by in
    let flow = c.args.flow in
    let h = c.requires.flow_steps in
    let now = reached_figure _ _ (start_in d flow (λ y. 0)) (served_zero d flow) (λ y u v now step. served_suc d flow y now (search rules)) y v r in
    let fits : ServiceFits flow.grow flow.age d v.0 = rw now (in_year_fits _ _ _ _ _ h.low h.high h.fits (omega (arith, c.requires.last_bound.0)) (omega arith)) in
    search rules

pub returns-then-keeps_motors : goal.returns-then-keeps_motors
returns-then-keeps_motors c =
    let d = c.args.discount.by in
    let flow = c.args.flow in
    power_kept _ _ _ _ _ _ _ (sym c.keeps_motors.ensures ∙ c.if-keeps_motors.true)
    (filled_by _ _ (start_in d flow (λ y. 0)) (served_zero d flow) (λ y u v now step. served_suc d flow y now (search rules)) _ _ _ _
    c.stepped.ensures)

pub returns : goal.returns
returns c =
    power_new _ _ _ _ _ _ _ (sym c.keeps_motors.ensures ∙ c.if-keeps_motors.false) c.stream.ensures
