-- An arc: what it pays up to its end, and its removal, which is added to the words that this leaves. Assumes nothing.
use Prim.Native.Nat.{◌+◌}
use Rattle.costing.specs.Arc.{paid, closing}
use Rattle.spreading.proofs.RaisedLaws.{raised_both}
use Rattle.spreading.proofs.SizeLaws.{ledger_small, room-paid}
use Rattle.spreading.proofs.adding.add_arc.Goals as goal

pub add_closing-requires : goal.add_closing-requires
add_closing-requires g c =
    let a = c.args in
    let h = c.requires in
    let φ = g.L.Ledger.figure a.ledger in
    let small = ledger_small (g.L.Ledger.ready a.ledger) a.kept h.fits h.suits φ (g.met.L.Ledger.small a.ledger) a.years h.few in (
      h.fits,
      h.suits,
      h.few,
      room-paid φ a.kept h.fits a.years h.few small (g.L.Ledger.counts a.ledger) (a.kept.from + a.years)
          a.words.now h.room c.add_paid.new.words c.add_paid.auto.words c.add_paid.ensures,
    )

pub returns : goal.returns
returns g c =
    let a = c.args in
    raised_both (g.L.Ledger.figure a.ledger) a.words.now c.add_paid.new.words c.add_closing.new.words (paid a.kept a.years)
    (closing a.kept a.removed a.years a.horizon) c.add_paid.ensures c.add_closing.ensures
