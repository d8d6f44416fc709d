-- One year more of both arcs. Assumes nothing.
use Prim.Native.Nat.{ℕ, ◌+◌}
use mathlib.Core.Path.{refl, ap, ◌∙◌}
use native.Mathlib.Omega.{arith}
use lib.ListN.{length-set}
use Rattle.costing.specs.Walk.{walk_at}
use Rattle.costing.proofs.WalkLaws.{walk-years}
use Rattle.streams.proofs.FallLaws.{falls_zero}
use Rattle.weighing.proofs.ArcCostLaws.{kept_from_fits, falls_from, costs_none, costs_next}
use Rattle.weighing.proofs.arcs.two_starts.Goals as goal

pub loop-n-init : goal.loop-n-init
loop-n-init c =
    record {
      walks = c.open-walk.ensures;
      years = walk-years c.args.kept _ 0 c.open-walk.ensures;
      besides = c.open-beside.ensures;
      years_beside = walk-years c.starting-other.result _ 0 c.open-beside.ensures;
      falls = falls_zero _;
      same = refl;
      same_later = refl;
      costs = costs_none c.args.kept _;
      costs_later = costs_none c.starting-other.result _;
    }

pub due-also-requires-clause-kept_fits : goal.due-also-requires-clause-kept_fits
due-also-requires-clause-kept_fits c =
    let a = c.args in
    let walks = c.requires.walks.0 in
    rw c.starting-other.ensures (kept_from_fits a.kept walks.steps.fits a.start (omega arith), walks.ages, falls_from a.kept a.start c.loop-n.n c.loop-n.next c.loop-n.invariant.falls)

pub loop-n-preserved : goal.loop-n-preserved
loop-n-preserved c =
    let kept = c.args.kept in
    let other = c.starting-other.result in
    let loop = c.loop-n in
    let h = loop.invariant in
    let walks = c.year-walk.ensures ∙ ap (λ (n : ℕ). walk_at kept (n + 1)) h.years in
    let besides = c.year-beside.ensures ∙ ap (λ (n : ℕ). walk_at other (n + 1)) h.years_beside in
    record {
      walks = walks;
      years = walk-years kept _ (loop.n + 1) walks;
      besides = besides;
      years_beside = walk-years other _ (loop.n + 1) besides;
      falls = c.due-due.ensures.next;
      same = length-set loop.earlier loop.n c.year-walk.result.cost.0 ∙ h.same;
      same_later = length-set loop.later loop.n c.year-beside.result.cost.0 ∙ h.same_later;
      costs = costs_next kept loop.n loop.earlier c.year-walk.result h.costs refl (omega arith) walks refl;
      costs_later = costs_next other loop.n loop.later c.year-beside.result h.costs_later refl (omega arith) besides refl;
    }
