-- A sheet is planned in its own buffers, which are enough, and what comes of it is put to the front of the text. Assumes nothing.
use Prim.Native.Nat.{ℕ}
use native.Mathlib.Omega.{arith}
use Rattle.base.proofs.OutcomeLaws.{refused_number, passed_number}
use Rattle.lines.proofs.TextLaws.{puts_of_lines}
use Rattle.printing.proofs.ShownLaws.{shown_plan, shown_refusal, sheet_left, sheet_put}
use Rattle.printing.proofs.show.Goals as goal

pub returns-then-text-lt-ROOM : goal.returns-then-text-lt-ROOM
returns-then-text-lt-ROOM c =
    let held = sheet_left _ _ (omega arith) in
    record { text = held.0; length = held.1.0; front = held.1.1.0; shows = held.1.1.1 }

pub returns-in-Ok : goal.returns-in-Ok
returns-in-Ok c =
    let zero = passed_number (λ (t : ℕ). t) c.plan.result _ c.in-Ok.is in
    let planned = c.plan.ensures in
    let whole = (planned.promised.chosen zero).whole in
    let put = c.plan_lines.ensures in
    let lines = puts_of_lines _ _ whole (omega (arith, c.plan.auto.plan)) _ _ put.text put.length put.front in
    let held = sheet_put _ _ (omega arith) _ _ (rw (shown_plan _ _ _ planned.answer planned.plan zero) lines) in
    record { text = held.0; length = held.1.0; front = held.1.1.0; shows = held.1.1.1 }

pub returns-in-Err : goal.returns-in-Err
returns-in-Err c =
    let planned = c.plan.ensures in
    let line = shown_refusal _ _ _ planned.answer planned.plan (refused_number (λ (t : ℕ). t) c.plan.result _ c.in-Err.is) in
    let shown = rw c.in-Err.is at line in
    let held = sheet_put _ _ (omega arith) _ _ (rw shown (rw (c.from-number.ensures, c.number.ensures, c.from-option.ensures, c.option.ensures) at c.put_pair.ensures.puts)) in
    record { text = held.0; length = held.1.0; front = held.1.1.0; shows = held.1.1.1 }
