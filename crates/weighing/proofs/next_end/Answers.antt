-- The sum leaves room. Assumes nothing.
use native.Mathlib.Omega.{arith}
use Rattle.weighing.proofs.NextLaws.{sum_fits}
use Rattle.weighing.proofs.next_end.Goals as goal

pub overflow_add-costs : goal.overflow_add-costs
overflow_add-costs c =
    let a = c.args in
    let h = c.requires.costs_known in
    record { fits = sum_fits a.kept a.words.now a.costs.now a.horizon c.loop-n.n (omega arith) (omega arith) _ (omega arith) h.0 h.1 c.if-behind.true }
