-- An arc but for its removal: the investment, the overhauls, maintenance and electricity, each added to the words that the part before it left.
-- Assumes nothing.
use mathlib.Core.Path.{refl, ◌∙◌}
use native.Mathlib.Omega.{arith}
use Rattle.costing.specs.Arc.{investment}
use Rattle.spreading.specs.Asks.{before_payment}
use Rattle.spreading.proofs.RaisedLaws.{paid_none, paid_raised}
use Rattle.spreading.proofs.SizeLaws.{kept_payable, kept_passes, ledger_small, room_within, room-opened, room_overhauled, room_maintained}
use Rattle.spreading.proofs.adding.add_paid.Goals as goal

pub returns-then-years-eq0 : goal.returns-then-years-eq0
returns-then-years-eq0 g c = paid_none (g.L.Ledger.figure c.args.ledger) c.args.words.now c.args.kept c.if-years-eq0.true

pub add_once-requires : goal.add_once-requires
add_once-requires g c =
    let a = c.args in
    let h = c.requires in
    let w = h.fits.terms.investment in
    let from = h.fits.from in (
      kept_payable (g.L.Ledger.ready a.ledger) a.kept h.fits h.suits _ _ _ w.amount w.grow.high,
      room_within (g.L.Ledger.counts a.ledger) _ _ a.kept.from before_payment a.words.now h.room (omega arith) (omega arith),
      omega arith,
    )

pub add_overhauls-requires : goal.add_overhauls-requires
unfolding investment
add_overhauls-requires g c =
    let a = c.args in
    let h = c.requires in
    let φ = g.L.Ledger.figure a.ledger in
    let small = ledger_small (g.L.Ledger.ready a.ledger) a.kept h.fits h.suits φ (g.met.L.Ledger.small a.ledger) a.years h.few in (
      h.fits,
      h.suits,
      h.few,
      room-opened φ a.kept h.fits a.years h.few small (g.L.Ledger.counts a.ledger) _ a.words.now h.room c.add_once.new.words c.add_once.auto.words
          c.add_once.ensures,
    )

pub add_flow-requires : goal.add_flow-requires
unfolding investment
add_flow-requires g c =
    let a = c.args in
    let h = c.requires in
    let φ = g.L.Ledger.figure a.ledger in
    let small = ledger_small (g.L.Ledger.ready a.ledger) a.kept h.fits h.suits φ (g.met.L.Ledger.small a.ledger) a.years h.few in (
      kept_passes (g.L.Ledger.ready a.ledger) a.kept h.fits h.suits a.kept.terms.maintenance h.fits.terms.maintenance,
      omega arith,
      h.fits.from,
      h.few,
      room_overhauled φ a.kept h.fits a.years h.few small (g.L.Ledger.counts a.ledger) _ a.words.now h.room c.add_once.new.words c.add_overhauls.new.words
          c.add_once.ensures c.add_overhauls.ensures (c.add_overhauls.auto.words ∙ c.add_once.auto.words),
    )

pub add_flow-requires-2 : goal.add_flow-requires-2
unfolding investment
add_flow-requires-2 g c =
    let a = c.args in
    let h = c.requires in
    let φ = g.L.Ledger.figure a.ledger in
    let small = ledger_small (g.L.Ledger.ready a.ledger) a.kept h.fits h.suits φ (g.met.L.Ledger.small a.ledger) a.years h.few in (
      kept_passes (g.L.Ledger.ready a.ledger) a.kept h.fits h.suits a.kept.terms.electricity h.fits.terms.electricity,
      omega (arith, h.fits.since),
      h.fits.from,
      h.few,
      room_maintained φ a.kept h.fits a.years h.few small (g.L.Ledger.counts a.ledger) _ a.words.now h.room c.add_once.new.words c.add_overhauls.new.words
          c.add_once.ensures c.add_overhauls.ensures c.add_flow.new.words
          (c.add_flow.auto.words ∙ c.add_overhauls.auto.words ∙ c.add_once.auto.words) c.add_flow.ensures,
    )

pub returns : goal.returns
unfolding investment
returns g c =
    let a = c.args in
    paid_raised (g.L.Ledger.figure a.ledger) a.words.now a.kept a.years c.add_once.new.words c.add_overhauls.new.words c.add_flow.new.words
    c.add_flow-2.new.words (omega (arith, c.if-years-eq0.false)) refl refl c.add_once.ensures c.add_overhauls.ensures c.add_flow.ensures c.add_flow-2.ensures
