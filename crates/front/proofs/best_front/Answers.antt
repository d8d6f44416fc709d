-- Maintaining is chosen by the totals of renovating; j is the end of renovating from its end i. Assumes nothing.
use mathlib.Core.Path.{ap, sym, ◌∙◌}
use native.Mathlib.Omega.{arith}
use lib.ListN.{get_or-replicate}
use Rattle.sheet.specs.Layout.{year_places}
use Rattle.choice.specs.Running.{no_total}
use Rattle.weighing.specs.declared.Best.{Best}
use Rattle.front.specs.Planned.{planned}
use Rattle.front.proofs.TakenLaws.{planned-front, planned_inside, front_none, front_some}
use Rattle.std.specs.Prelude.{Some}
use Rattle.front.proofs.best_front.Goals as goal

pub renovations-requires-clause-no_totals : goal.renovations-requires-clause-no_totals
renovations-requires-clause-no_totals c = (λ y l. get_or-replicate year_places y no_total 0 (omega arith), omega arith, omega arith)

-- no chain
pub returns-then-total : goal.returns-then-total
returns-then-total c p read = front_none (planned p) (sym (ap (λ (b : Best). b.total) (c.best_maintain-best.ensures p read)) ∙ c.if-total.true)

pub offset_bounds-ends-i : goal.offset_bounds-ends-i
offset_bounds-ends-i c =
    let inside = planned_inside c.args.sheet c.requires.sheet_fits.0 c.best_maintain-best.result c.best_maintain-best.ensures c.if-total.false in
    omega arith

pub bounds-ends-i : goal.bounds-ends-i
bounds-ends-i c =
    let inside = planned_inside c.args.sheet c.requires.sheet_fits.0 c.best_maintain-best.result c.best_maintain-best.ensures c.if-total.false in
    omega arith

pub returns : goal.returns
returns c p read =
    let best = c.best_maintain-best in
    let total = ap (λ (b : Best). b.total) (best.ensures p read) in
    let front = planned-front p best.result (best.ensures p read) c.if-total.false in
    ap Some (front.1 _ (c.renovations.ensures.2.held p read best.result.end front.0))
    ∙ front_some (planned p) (λ q. c.if-total.false (total ∙ q))
