-- `removal_at` reads the removal of a record of the longer sheet, and none of another. Assumes nothing.
use mathlib.Core.Path.{ap, sym, ◌∙◌}
use mathlib.Core.Bool.{Bool}
use Rattle.sheet.specs.Sheet.{removal_at, factor}
use Rattle.sheet.specs.Parsed.{flow_of}
use Rattle.sheet.proofs.record.removal_at.Goals as goal

pub once_at-requires : goal.once_at-requires
once_at-requires c = c.requires c.if-long.true

pub returns-then-long : goal.returns-then-long
unfolding removal_at
returns-then-long c =
    c.once_at.ensures ∙ ap (λ (long : Bool). flow_of (removal_at long c.args.s.now c.args.at)) (sym c.if-long.true)

pub returns : goal.returns
unfolding removal_at flow_of factor
returns c =
    ap (λ (long : Bool). flow_of (removal_at long c.args.s.now c.args.at)) (sym c.if-long.false)
