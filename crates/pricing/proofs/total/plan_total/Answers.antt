-- The years of maintaining, renovating and the replacements are in order. Assumes nothing.
use native.Mathlib.Omega.{arith}
use Rattle.pricing.proofs.EndsLaws.{ordered_read}
use Rattle.pricing.proofs.total.plan_total.Goals as goal

pub arc_cost-maintained-requires : goal.arc_cost-maintained-requires
arc_cost-maintained-requires c =
    let years = ordered_read _ c.i_of-i.ensures.0 c.j_of-j.ensures.0 c.count_of-count.ensures.0 _ c.requires.ordered in
    let early = years.1.early in
    (c.requires.fit.0, omega arith, omega (arith, years.0))

pub arc_cost-renovated-requires : goal.arc_cost-renovated-requires
arc_cost-renovated-requires c =
    let years = ordered_read _ c.i_of-i.ensures.0 c.j_of-j.ensures.0 c.count_of-count.ensures.0 _ c.requires.ordered in
    (c.requires.fit.0, years.0, years.1.early)

pub replaced-replacements-requires-clause-climbs : goal.replaced-replacements-requires-clause-climbs
replaced-replacements-requires-clause-climbs c =
    (ordered_read _ c.i_of-i.ensures.0 c.j_of-j.ensures.0 c.count_of-count.ensures.0 _ c.requires.ordered).1
