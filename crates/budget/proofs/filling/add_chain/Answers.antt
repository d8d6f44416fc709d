-- The chain in plan bytes: maintaining, renovating and the replacements, whose years are in order. Assumes nothing.
use native.Mathlib.Omega.{arith}
use Rattle.pricing.proofs.EndsLaws.{ordered_read}
use Rattle.budget.proofs.FillLaws.{chain_raised}
use Rattle.budget.proofs.filling.add_chain.Goals as goal

pub add_activity-requires : goal.add_activity-requires
add_activity-requires g c =
    let o = ordered_read c.args.plan.now c.i_of-i.ensures.0 c.j_of-j.ensures.0 c.count_of-count.ensures.0 c.args.sheet.now.horizon c.requires.1.ordered in
    let up = o.0 in
    record { list_asks = c.requires.0; in_order = (omega arith, omega (arith, o.1.early)) }

pub add_activity-requires-2 : goal.add_activity-requires-2
add_activity-requires-2 g c =
    let h = c.requires.0 in
    let o = ordered_read c.args.plan.now c.i_of-i.ensures.0 c.j_of-j.ensures.0 c.count_of-count.ensures.0 c.args.sheet.now.horizon c.requires.1.ordered in
    record {
      list_asks = record { fit = h.fit; suits = h.suits; room = c.add_activity.ensures.room };
      in_order = (o.0, o.1.early);
    }

pub add_replacements-requires : goal.add_replacements-requires
add_replacements-requires g c =
    let h = c.requires.0 in
    let o = ordered_read c.args.plan.now c.i_of-i.ensures.0 c.j_of-j.ensures.0 c.count_of-count.ensures.0 c.args.sheet.now.horizon c.requires.1.ordered in
    record {
      list_asks = (record { fit = h.fit; suits = h.suits; room = c.add_activity-2.ensures.room }, omega (arith, c.requires.1.long, c.count_of-count.ensures.0));
      climbs = o.1;
    }

pub returns : goal.returns
returns g c p is =
    let a = c.args in
    chain_raised (g.L.Ledger.figure a.ledger) p a.plan.now a.words.now c.add_activity.new.words c.add_activity-2.new.words c.add_replacements.new.words
    c.i_of-i.ensures.0 c.j_of-j.ensures.0 c.count_of-count.ensures.0
    (c.add_activity.ensures.paid p is) (c.add_activity-2.ensures.paid p is) (c.add_replacements.ensures p is)
