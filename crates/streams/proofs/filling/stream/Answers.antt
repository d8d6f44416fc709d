-- Each plain step gives the value of the next year. Assumes nothing.
use Rattle.std.proofs.Common.{rules}
use Rattle.steps.specs.Fit.{PlainFits}
use Rattle.streams.specs.Streams.{once_in}
use Rattle.streams.proofs.FillLaws.{reached_figure, filled_by, once-zero, once-suc, once_fits}
use Rattle.streams.proofs.filling.stream.Goals as goal

pub stepped-requires-clause-steps : goal.stepped-requires-clause-steps
stepped-requires-clause-steps c y v l r =
    let d = c.args.discount.by in
    let amount = c.args.amount in
    let grow = c.args.grow in
    let now =
    reached_figure _ _ (once_in d amount grow) (once-zero d amount grow) (λ y u v now step. once-suc d amount grow y now (search rules)) y v r in
    let fits : PlainFits grow d v.0 = once_fits d amount grow y now c.requires.plain_fits in
    search rules

pub returns : goal.returns
returns c =
    let d = c.args.discount.by in
    let amount = c.args.amount in
    let grow = c.args.grow in
    filled_by _ _ (once_in d amount grow) (once-zero d amount grow) (λ y u v now step. once-suc d amount grow y now (search rules)) _ _ _ _
    c.stepped.ensures
