-- The plan of the chosen chain: no chain, a buffer that is too short for it, or its plan written. Assumes nothing.
use mathlib.Core.Path.{sym, ◌∙◌}
use native.Mathlib.Omega.{arith}
use Rattle.sheet.proofs.ParsedLaws.{horizon_read}
use Rattle.front.specs.Planned.{planned}
use Rattle.front.proofs.TakenLaws.{none_left, some_found, planned_begins}
use Rattle.planning.proofs.PlanningLaws.{planning_none}
use Rattle.planner.proofs.FoundLaws.{found_short, found_fits}
use Rattle.planner.proofs.written.write_chosen.Goals as goal

-- no chain
pub returns-in_default-clause-answer : goal.returns-in_default-clause-answer
returns-in_default-clause-answer c =
    λ p read.
    let none = none_left (planned p) (sym c.in_default.is ∙ c.best_front-chosen.ensures p read) in
    (planning_none p c.args.plan.now none).0

pub returns-in_default-clause-plan : goal.returns-in_default-clause-plan
returns-in_default-clause-plan c =
    λ p read. (planning_none p c.args.plan.now (none_left (planned p) (sym c.in_default.is ∙ c.best_front-chosen.ensures p read))).1

-- there is one, and its ends are followed
pub ends_from-count-requires-clause-j_le_horizon : goal.ends_from-count-requires-clause-j_le_horizon
ends_from-count-requires-clause-j_le_horizon c =
    let some = c.requires.0 in
    let p = some.sheet in
    let horizon = horizon_read c.args.sheet p some.read in
    let f = some_found (planned p) c.in-Some.field-0 (sym c.in-Some.is ∙ c.best_front-chosen.ensures p some.read) in
    let begins = planned_begins p c.in-Some.field-0 f.0 f.1 in (
      omega (arith, begins.inside, horizon),
      λ p read.
          let f = some_found (planned p) c.in-Some.field-0 (sym c.in-Some.is ∙ c.best_front-chosen.ensures p read) in
          (planned_begins p c.in-Some.field-0 f.0 f.1).there,
      omega arith,
    )

-- a buffer that is too short
pub returns-then-plan-count-clause-answer : goal.returns-then-plan-count-clause-answer
returns-then-plan-count-clause-answer c =
    λ p read.
    let f = some_found (planned p) c.in-Some.field-0 (sym c.in-Some.is ∙ c.best_front-chosen.ensures p read) in
    let short = found_short p _ f.0 f.1 _ _ (c.ends_from-count.ensures p read) c.args.plan.now c.if-plan-count.true in
    short.0

pub returns-then-plan-count-clause-plan : goal.returns-then-plan-count-clause-plan
returns-then-plan-count-clause-plan c =
    λ p read.
    let f = some_found (planned p) c.in-Some.field-0 (sym c.in-Some.is ∙ c.best_front-chosen.ensures p read) in
    (found_short p _ f.0 f.1 _ _ (c.ends_from-count.ensures p read) c.args.plan.now c.if-plan-count.true).1

-- the plan of the chain that was found
pub returns-clause-answer : goal.returns-clause-answer
returns-clause-answer c =
    λ p read.
    let f = some_found (planned p) c.in-Some.field-0 (sym c.in-Some.is ∙ c.best_front-chosen.ensures p read) in
    (found_fits p _ f.0 f.1 _ _ (c.ends_from-count.ensures p read) c.args.plan.now c.if-plan-count.false).0

pub returns-clause-plan : goal.returns-clause-plan
returns-clause-plan c =
    λ p read.
    let f = some_found (planned p) c.in-Some.field-0 (sym c.in-Some.is ∙ c.best_front-chosen.ensures p read) in
    c.write_plan.ensures ∙ (found_fits p _ f.0 f.1 _ _ (c.ends_from-count.ensures p read) c.args.plan.now c.if-plan-count.false).1
