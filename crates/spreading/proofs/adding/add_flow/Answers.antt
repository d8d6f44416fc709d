-- A flow, year by year: a year that is not counted ends it. Assumes nothing.
use Prim.Native.Nat.{ℕ, suc, ◌+◌, ◌≤◌}
use mathlib.Core.Path.{refl, sym, ap, ◌∙◌}
use native.Mathlib.Omega.{arith}
use native.Mathlib.Nat.{add-zero, add_assoc}
use Rattle.steps.specs.Fit.{largest_payment}
use Rattle.costing.specs.Arc.{in_year}
use Rattle.spreading.proofs.RaisedLaws.{flow_none, flow_next, flow_rest, flow_uncounted, raised-le}
use Rattle.spreading.proofs.SizeLaws.{flow_most, year_payable, year-served, year_behind}
use Rattle.spreading.proofs.adding.add_flow.Goals as goal

pub returns-then-not-counts : goal.returns-then-not-counts
returns-then-not-counts g c =
    let a = c.args in
    flow_uncounted (g.L.Ledger.counts a.ledger) (g.met.L.Ledger.earlier a.ledger) (g.L.Ledger.figure a.ledger) (g.met.L.Ledger.uncounted a.ledger)
    a.flow a.since a.from c.requires.1 a.words.now a.years (sym c.counts.ensures ∙ c.if-not-counts.true)

pub loop-n-init : goal.loop-n-init
loop-n-init g c =
    let a = c.args in
    let φ = g.L.Ledger.figure a.ledger in
    record {
      in_range = omega arith;
      stands = rw (add-zero a.from) c.running-amount.ensures;
      same_length = refl;
      raised = flow_none φ a.words.now a.flow a.since a.from;
    }

pub returns-then-not-counts-2 : goal.returns-then-not-counts-2
returns-then-not-counts-2 g c =
    let a = c.args in
    let l = c.loop-n in
    flow_rest (g.L.Ledger.counts a.ledger) (g.met.L.Ledger.earlier a.ledger) (g.L.Ledger.figure a.ledger) (g.met.L.Ledger.uncounted a.ledger)
    a.flow a.since a.from c.requires.1 a.words.now l.words l.n a.years l.invariant.in_range
    (sym c.counts-in-loop-n.ensures ∙ c.if-not-counts-2.true) l.invariant.raised

pub in_service-amount-requires : goal.in_service-amount-requires
in_service-amount-requires g c =
    let a = c.args in
    let l = c.loop-n in
    record {
      since = a.since;
      year = a.from + l.n;
      old = omega (arith, c.requires.1);
      early = omega (arith, c.requires.2, c.requires.3, l.invariant.in_range);
      payable = year_payable (g.L.Ledger.ready a.ledger) a.flow a.since (a.from + l.n) 0 c.requires.0;
      next = sym c.counts-in-loop-n.ensures ∙ c.if-not-counts-2.false;
      stands = l.invariant.stands;
    }

pub add-requires : goal.add-requires
add-requires g c =
    let a = c.args in
    let l = c.loop-n in
    let φ = g.L.Ledger.figure a.ledger in
    let counted = sym c.counts-in-loop-n.ensures ∙ c.if-not-counts-2.false in
    let year = a.from + l.n + 1 in
    let early : a.from + a.years ≤ 600 = omega (arith, c.requires.2, c.requires.3) in
    let room = c.requires.4 in
    let small : (k : ℕ) → k ≤ a.years → φ (in_year a.flow a.since a.from k) ≤ largest_payment =
    λ k few. g.met.L.Ledger.small a.ledger _ (year_payable (g.L.Ledger.ready a.ledger) a.flow a.since a.from k c.requires.0) (year-served a.flow a.since a.from k (omega arith)) in
    let so_far = flow_most φ a.flow a.since a.from l.n (λ k m. small (suc k) (omega arith)) in
    let next = c.in_service-amount.ensures a.since (a.from + l.n) (omega (arith, c.requires.1)) counted l.invariant.stands in
    let is = next ∙ ap φ (year_behind a.flow a.since a.from l.n c.requires.1) in (
      omega (arith, room.long year (omega arith) counted, l.invariant.same_length),
      omega (arith, room.low year (omega arith) counted, raised-le φ a.words.now l.words _ year l.invariant.raised, so_far, is, small (suc l.n) (omega (arith, c.loop-n-test.true))),
    )

pub loop-n-preserved : goal.loop-n-preserved
loop-n-preserved g c =
    let a = c.args in
    let l = c.loop-n in
    let φ = g.L.Ledger.figure a.ledger in
    let counted = sym c.counts-in-loop-n.ensures ∙ c.if-not-counts-2.false in
    let next = c.in_service-amount.ensures a.since (a.from + l.n) (omega (arith, c.requires.1)) counted l.invariant.stands in
    record {
      in_range = omega (arith, c.loop-n-test.true);
      stands = rw (← add_assoc) next;
      same_length = c.add.auto.words ∙ l.invariant.same_length;
      raised =
          flow_next φ a.words.now a.flow a.since a.from l.n l.words c.add.new.words c.requires.1 l.invariant.raised refl
          (next ∙ ap φ (year_behind a.flow a.since a.from l.n c.requires.1)) c.add.ensures;
    }
