-- What is paid at an arc's end, case by case: no removal at all, one that is paid, one that is not. Assumes nothing.
use Prim.Native.Nat.{ℕ, ◌+◌}
use mathlib.Core.Path.{sym, ap, ◌∙◌}
use native.Mathlib.Omega.{arith}
use Rattle.steps.specs.Payment.{rounded}
use Rattle.steps.proofs.RoomLaws.{once_free}
use Rattle.costing.specs.Arc.{removal}
use Rattle.costing.proofs.SumLaws.{closing_free, closing-paid, closing_none}
use Rattle.costing.proofs.Kept.closing.Goals as goal

pub returns-then-removal-eq0 : goal.returns-then-removal-eq0
returns-then-removal-eq0 c =
    let a = c.args in
    let free = once_free a.self.discount (omega (arith, c.requires.0.fits.low)) in
    sym (closing_free (rounded a.self.discount) free a.self c.if-removal-eq0.true a.removed a.years a.horizon)

pub returns-then-closes : goal.returns-then-closes
unfolding removal
returns-then-closes c =
    let a = c.args in
    c.paid_once.ensures
    ∙ ap (λ (d : ℕ). rounded d (removal a.self (a.self.from + a.years))) c.requires.0.divides.number
    ∙ sym (closing-paid (rounded a.self.discount) a.self a.removed a.years a.horizon (sym c.closes.ensures ∙ c.if-closes.true))

pub returns : goal.returns
returns c =
    let a = c.args in
    sym (closing_none (rounded a.self.discount) a.self a.removed a.years a.horizon (sym c.closes.ensures ∙ c.if-closes.false))
