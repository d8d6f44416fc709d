-- An overhaul is paid in the year of its age, and in no other. Assumes nothing.
use mathlib.Core.Path.{◌∙◌}
use native.Mathlib.Omega.{arith}
use Rattle.costing.proofs.WalkLaws.{overhaul_falls, overhaul_waits}
use Rattle.costing.proofs.arc.overhaul_at.Goals as goal

pub returns-then-age-n : goal.returns-then-age-n
returns-then-age-n c =
    let a = c.args in
    let taken = c.if-age-n.true in
    c.paid_once.ensures ∙ overhaul_falls a.discount.by a.amount a.grow a.from a.age a.n (omega arith)

pub returns : goal.returns
returns c = overhaul_waits _ _ _ _ _ _ c.if-age-n.false
