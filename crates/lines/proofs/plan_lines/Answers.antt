-- A plan that does not lie whole in its bytes, or a text that is too short, is found before anything is put. Assumes nothing.
use native.Mathlib.Omega.{arith}
use Rattle.lines.proofs.TextLaws.{plan_cut, text_short, lines_put}
use Rattle.lines.proofs.plan_lines.Goals as goal

pub returns-then-plan-lt19 : goal.returns-then-plan-lt19
returns-then-plan-lt19 c =
    let held =
    plan_cut _ _ (omega arith) in
    record { text = held.0; length = held.1.0; front = held.1.1 }

pub returns-then-plan-count : goal.returns-then-plan-count
returns-then-plan-count c =
    let held =
    plan_cut _ _ (omega (arith, c.count_of-count.ensures.0)) in
    record { text = held.0; length = held.1.0; front = held.1.1 }

pub returns-then-text-count : goal.returns-then-text-count
returns-then-text-count c =
    let held =
    text_short _ _ (omega (arith, c.count_of-count.ensures.0)) in
    record { text = held.0; length = held.1.0; front = held.1.1 }

pub returns : goal.returns
returns c =
    let held =
    let m = c.count_of-count.ensures.0 in
    lines_put _ _ (omega arith) (omega arith) _ _ c.put_plan.ensures in
    record { text = held.0; length = held.1.0; front = held.1.1 }
