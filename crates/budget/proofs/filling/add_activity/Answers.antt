-- An arc of the sheet: that of the option which the sheet's terms give, kept from the start. Assumes nothing.
use Prim.Native.Nat.{◌-◌, ◌*◌, ◌≤◌}
use mathlib.Core.Path.{ap, sym, subst}
use native.Mathlib.Omega.{arith}
use Rattle.base.specs.Outcome.{place}
use Rattle.base.proofs.OutcomeLaws.{place_lt}
use Rattle.costing.specs.Fit.{KeptFits, yearly}
use Rattle.costing.specs.declared.Kept.{Kept}
use Rattle.costing.proofs.SheetArcLaws.{kept_of_fits}
use Rattle.spreading.proofs.SizeLaws.{ledger_small, room_within}
use Rattle.budget.proofs.FillLaws.{arc_unpaid, arc_read, arc-room}
use Rattle.budget.proofs.filling.add_activity.Goals as goal

-- nothing is paid, and nothing added
pub returns-then-start-end : goal.returns-then-start-end
returns-then-start-end g c =
    let a = c.args in
    let same = c.if-start-end.true in
    record {
      paid = λ p read. arc_unpaid (g.L.Ledger.figure a.ledger) p (place a.activity) a.start a.end same a.words.now;
      room = room_within (g.L.Ledger.counts a.ledger) a.sheet.now.horizon (a.start * yearly) _ _ a.words.now c.requires.list_asks.room (omega arith) (rw same (omega arith));
    }

pub add_arc-requires : goal.add_arc-requires
add_arc-requires g c =
    let a = c.args in
    let h = c.requires.list_asks in
    let o = c.requires.in_order in
    let known : place a.activity ≤ 2 = omega (arith, place_lt a.activity) in
    let forward = o.0 in
    let inside = o.1 in
    let made = c.kept_of-kept.ensures in
    let from = ap (λ (k : Kept). k.from) made in
    record {
      fits = subst KeptFits (sym made) (kept_of_fits a.sheet.now h.fit (place a.activity) a.start known (omega arith));
      suits = subst (g.L.Ledger.ready a.ledger) (sym (ap (λ (k : Kept). k.discount) made)) h.suits;
      few = omega (arith, h.fit.horizon_high);
      room = room_within (g.L.Ledger.counts a.ledger) a.sheet.now.horizon (a.start * yearly) _ _ a.words.now h.room (omega (arith, from)) (rw from (omega arith));
    }

pub returns-clause-paid : goal.returns-clause-paid
returns-clause-paid g c =
    let a = c.args in
    arc_read a.sheet.now (place a.activity) a.start a.end (omega (arith, place_lt a.activity)) c.kept_of-kept.result c.kept_of-kept.ensures c.pays_removal-removed.result
    (rw c.from.ensures at c.pays_removal-removed.ensures) a.words.now c.add_arc.new.words (g.L.Ledger.figure a.ledger) c.add_arc.ensures

pub returns-clause-room : goal.returns-clause-room
returns-clause-room g c =
    let a = c.args in
    let h = c.requires.list_asks in
    let o = c.requires.in_order in
    let known : place a.activity ≤ 2 = omega (arith, place_lt a.activity) in
    let forward = o.0 in
    let inside = o.1 in
    let made = c.kept_of-kept.ensures in
    let kept = c.kept_of-kept.result in
    let φ = g.L.Ledger.figure a.ledger in
    let fits = subst KeptFits (sym made) (kept_of_fits a.sheet.now h.fit (place a.activity) a.start known (omega arith)) in
    let suits = subst (g.L.Ledger.ready a.ledger) (sym (ap (λ (k : Kept). k.discount) made)) h.suits in
    let small = ledger_small (g.L.Ledger.ready a.ledger) kept fits suits φ (g.met.L.Ledger.small a.ledger) (a.end - a.start) (omega (arith, h.fit.horizon_high)) in
    arc-room a.sheet.now (place a.activity) a.start a.end known kept made c.pays_removal-removed.result (rw c.from.ensures at c.pays_removal-removed.ensures) a.words.now c.add_arc.new.words
    h.fit o.0 o.1 φ small c.add_arc.ensures (g.L.Ledger.counts a.ledger) h.room c.add_arc.auto.words
