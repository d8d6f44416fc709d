-- One replacement more. Assumes nothing.
use mathlib.Core.Path.{◌≡◌, refl, ◌∙◌}
use native.Mathlib.Omega.{arith}
use Rattle.chain.proofs.PlanBytesLaws.{ends_more}
use Rattle.pricing.proofs.EndsLaws.{climbs_more}
use Rattle.budget.proofs.FillLaws.{ends_first, falls_next, falls_none}
use Rattle.budget.proofs.filling.add_replacements.Goals as goal

pub loop-k-init : goal.loop-k-init
loop-k-init g c =
    let a = c.args in
    record {
      in_range = omega arith;
      climbs = rw (ends_first a.plan.now a.count) c.requires.climbs;
      same_length = refl;
      room = c.requires.list_asks.0.room;
      rest = λ p read y. refl;
    }

pub add_activity-requires-clause-list_asks : goal.add_activity-requires-clause-list_asks
add_activity-requires-clause-list_asks g c =
    let h = c.requires.list_asks.0 in
    record { fit = h.fit; suits = h.suits; room = c.loop-k.invariant.room }

pub add_activity-requires-clause-in_order : goal.add_activity-requires-clause-in_order
add_activity-requires-clause-in_order g c =
    let a = c.args in
    let l = c.loop-k in
    let n = climbs_more (ends_more a.plan.now a.count l.k c.loop-k-test.true c.end_at-end.ensures.0) a.sheet.now.horizon l.year l.invariant.climbs in
    let up = n.0 in
    (omega arith, n.1.early)

pub loop-k-preserved : goal.loop-k-preserved
loop-k-preserved g c =
    let a = c.args in
    let l = c.loop-k in
    let plan = a.plan.now in
    let φ = g.L.Ledger.figure a.ledger in
    let read = c.end_at-end.ensures.0 in
    let n = climbs_more (ends_more plan a.count l.k c.loop-k-test.true read) a.sheet.now.horizon l.year l.invariant.climbs in
    record {
      in_range = omega (arith, c.loop-k-test.true);
      climbs = n.1;
      same_length = c.add_activity.auto.words ∙ l.invariant.same_length;
      room = c.add_activity.ensures.room;
      rest = λ p is y.
          omega (
            arith,
            l.invariant.rest p is y,
            c.add_activity.ensures.paid p is y,
            falls_next φ p y plan a.count l.k c.loop-k-test.true read l.year,
          );
    }

pub returns : goal.returns
returns g c p is y =
    let a = c.args in
    let l = c.loop-k in
    let φ = g.L.Ledger.figure a.ledger in
    let e : l.k ≡ a.count = omega (arith, l.invariant.in_range) in
    rw (← ends_first a.plan.now a.count)
    (omega (arith, rw e at (l.invariant.rest p is y), falls_none φ p y a.plan.now a.count l.year))
