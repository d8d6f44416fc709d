-- An arc's cost is what is paid up to its end, and removal. Assumes nothing.
use native.Mathlib.Omega.{arith}
use Rattle.costing.proofs.SizeLaws.{whole_le}
use Rattle.costing.proofs.Kept.cost.Goals as goal

pub overflow_add-sum : goal.overflow_add-sum
overflow_add-sum c =
    let a = c.args in
    omega
    (arith, whole_le a.self c.requires.0.fits a.removed a.years a.horizon c.requires.1, c.paid-paid.ensures, c.closing-closing.ensures)
