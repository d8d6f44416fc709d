-- The sum over the overhauls, one after the other. Assumes nothing.
use Prim.Native.Nat.{◌+◌}
use mathlib.Core.Path.{◌≡◌, ◌∙◌}
use native.Mathlib.Omega.{arith}
use Rattle.costing.proofs.WalkLaws.{due_by, due_by-zero, due_by-suc, due_by_all, due_by-lt}
use Rattle.costing.proofs.Kept.overhauls_at.Goals as goal

pub loop-j-init : goal.loop-j-init
loop-j-init c = due_by-zero _ _

pub overflow_add-sum : goal.overflow_add-sum
overflow_add-sum c =
    let a = c.args in
    let next : c.loop-j.sum + c.overhaul_at-sum.result.0 ≡ due_by a.self a.n (c.loop-j.j + 1) =
    rw (c.loop-j.invariant, c.overhaul_at-sum.ensures) (due_by-suc _ _ _ c.requires.0.divides.number) in
    rw next (omega (arith, due_by-lt a.self c.requires.0.fits a.n (c.loop-j.j + 1) (omega arith)))

pub loop-j-preserved : goal.loop-j-preserved
loop-j-preserved c = rw (c.loop-j.invariant, c.overhaul_at-sum.ensures) (due_by-suc _ _ _ c.requires.0.divides.number)

pub returns : goal.returns
returns c =
    let e : c.loop-j.j ≡ c.args.self.terms.overhauls.count = omega arith in
    rw e at c.loop-j.invariant ∙ due_by_all _ _
