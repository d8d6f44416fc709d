-- An arc that ends before the horizon adds its removal in its end year, any other nothing. Assumes nothing.
use mathlib.Core.Path.{sym, ◌∙◌}
use native.Mathlib.Omega.{arith}
use Rattle.costing.specs.Arc.{removal}
use Rattle.spreading.proofs.RaisedLaws.{closing_raised, closing_unraised}
use Rattle.spreading.proofs.SizeLaws.{kept_payable}
use Rattle.spreading.proofs.adding.add_closing.Goals as goal

pub add_once-requires : goal.add_once-requires
add_once-requires g c =
    let a = c.args in
    let ok = c.requires.0 in
    let w = ok.terms.removal in (
      kept_payable (g.L.Ledger.ready a.ledger) a.kept ok c.requires.1 _ _ _ w.amount w.grow.high,
      c.requires.3,
      omega (arith, ok.from, c.requires.2),
    )

pub returns-then-closes : goal.returns-then-closes
unfolding removal
returns-then-closes g c =
    let a = c.args in
    closing_raised (g.L.Ledger.figure a.ledger) a.words.now a.kept a.removed a.years a.horizon c.add_once.new.words
    (sym c.closes.ensures ∙ c.if-closes.true) c.add_once.ensures

pub returns-else-closes : goal.returns-else-closes
returns-else-closes g c =
    let a = c.args in
    closing_unraised (g.L.Ledger.figure a.ledger) a.words.now a.kept a.removed a.years a.horizon (sym c.closes.ensures ∙ c.if-closes.false)
