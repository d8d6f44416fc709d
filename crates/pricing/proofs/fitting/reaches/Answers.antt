-- The answer that no tactic finds.
use mathlib.Core.Path.{sym, ◌∙◌}
use native.Mathlib.Omega.{arith}
use Rattle.chain.proofs.PlanBytesLaws.{ends_more}
use Rattle.pricing.proofs.EndsLaws.{reaches_stop}
use Rattle.pricing.proofs.fitting.reaches.Goals as goal

pub returns-then-not-offered : goal.returns-then-not-offered
returns-then-not-offered c =
    λ p read.
    let next = ends_more c.args.plan.now c.args.count c.loop-k.k (omega arith) c.end_at-end.ensures.0 in
    let out = sym (c.offered.ensures p read) ∙ c.if-not-offered.true in
    sym (reaches_stop next p c.loop-k.year out) ∙ c.loop-k.invariant p read
