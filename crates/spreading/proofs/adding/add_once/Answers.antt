-- An amount in a year that is counted adds its figure to the word of the year, any other nothing. Assumes nothing.
use mathlib.Core.Path.{sym, ◌∙◌}
use native.Mathlib.Omega.{arith}
use Rattle.steps.specs.Payment.{once}
use Rattle.spreading.proofs.RaisedLaws.{once-year, raised_one, raised_uncounted}
use Rattle.spreading.proofs.adding.add_once.Goals as goal

pub add-requires : goal.add-requires
unfolding once
add-requires g c =
    let a = c.args in
    let q = once a.amount a.grow a.year in
    let room = c.requires.1 in
    let counted = sym c.counts.ensures ∙ c.if-counts.true in
    let small = g.met.L.Ledger.small a.ledger q c.requires.0 (omega arith) in (
      room.long a.year (omega arith) counted,
      omega (arith, room.low a.year (omega arith) counted, c.paid_once-value.ensures, small),
    )

pub returns-then-counts : goal.returns-then-counts
returns-then-counts g c =
    let a = c.args in
    let q = once a.amount a.grow a.year in
    raised_one (g.L.Ledger.figure a.ledger) a.words.now c.add.new.words q (sym (once-year a.amount a.grow a.year)) c.paid_once-value.ensures c.add.ensures

pub returns-else-counts : goal.returns-else-counts
returns-else-counts g c =
    let a = c.args in
    let q = once a.amount a.grow a.year in
    raised_uncounted (g.L.Ledger.counts a.ledger) (g.met.L.Ledger.earlier a.ledger) (g.L.Ledger.figure a.ledger) (g.met.L.Ledger.uncounted a.ledger)
    a.words.now q (rw (once-year a.amount a.grow a.year) (sym c.counts.ensures ∙ c.if-counts.false))
