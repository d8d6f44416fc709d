-- A year more: both running amounts take a step in service, and what they reach is paid with what falls due. Assumes nothing.
use mathlib.Core.Path.{ap, ◌∙◌}
use native.Mathlib.Omega.{arith}
use Rattle.costing.specs.declared.Walk.{Walk}
use Rattle.costing.proofs.SizeLaws.{in_year_fits}
use Rattle.costing.proofs.WalkLaws.{walk_at-maintenance, walk_at-electricity, walk-suc, walk-room}
use Rattle.costing.proofs.Walk.year.Goals as goal

pub in_service-maintenance-requires : goal.in_service-maintenance-requires
in_service-maintenance-requires c =
    let h = c.requires.steppable.0.fits in
    let d = c.requires.steppable.0.divides in
    rw (d.number, ap (λ (w : Walk). w.maintenance.0) c.requires.self_value ∙ walk_at-maintenance _ _)
    (in_year_fits _ _ _ _ _ h.low h.high h.terms.maintenance h.from (omega arith))

pub in_service-electricity-requires : goal.in_service-electricity-requires
in_service-electricity-requires c =
    let h = c.requires.steppable.0.fits in
    let d = c.requires.steppable.0.divides in
    rw (d.number, ap (λ (w : Walk). w.electricity.0) c.requires.self_value ∙ walk_at-electricity _ _)
    (in_year_fits _ _ _ _ _ h.low h.high h.terms.electricity h.from (omega arith))

pub overflow_add-sum : goal.overflow_add-sum
overflow_add-sum c =
    let s = c.requires in
    omega (
      arith,
      walk-room c.args.kept c.args.self s.self_value _ _ _ s.due_value s.steppable.0.divides.number c.in_service-maintenance.ensures
          c.in_service-electricity.ensures s.steppable.0.fits (omega arith),
    )

pub overflow_add-sum-2 : goal.overflow_add-sum-2
overflow_add-sum-2 c =
    let s = c.requires in
    omega (
      arith,
      walk-room c.args.kept c.args.self s.self_value _ _ _ s.due_value s.steppable.0.divides.number c.in_service-maintenance.ensures
          c.in_service-electricity.ensures s.steppable.0.fits (omega arith),
    )

pub overflow_add-sum-3 : goal.overflow_add-sum-3
overflow_add-sum-3 c =
    let s = c.requires in
    omega (
      arith,
      walk-room c.args.kept c.args.self s.self_value _ _ _ s.due_value s.steppable.0.divides.number c.in_service-maintenance.ensures
          c.in_service-electricity.ensures s.steppable.0.fits (omega arith),
    )

pub returns : goal.returns
returns c =
    let s = c.requires in
    walk-suc c.args.kept c.args.self s.self_value _ _ _ s.due_value s.steppable.0.divides.number c.in_service-maintenance.ensures
    c.in_service-electricity.ensures
