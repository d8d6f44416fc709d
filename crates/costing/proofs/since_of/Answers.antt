-- Kept motors are in service since year 0, new ones since the start. Assumes nothing.
use mathlib.Core.Path.{sym, ◌∙◌}
use Rattle.costing.proofs.SheetArcLaws.{since_kept, since_new}
use Rattle.costing.proofs.since_of.Goals as goal

pub keeps_motors-requires : goal.keeps_motors-requires
keeps_motors-requires c = tt

pub returns-then-keeps_motors : goal.returns-then-keeps_motors
returns-then-keeps_motors c = sym (since_kept _ _ (sym (rw c.from.ensures at c.keeps_motors.ensures) ∙ c.if-keeps_motors.true))

pub returns : goal.returns
returns c = sym (since_new _ _ (sym (rw c.from.ensures at c.keeps_motors.ensures) ∙ c.if-keeps_motors.false))
