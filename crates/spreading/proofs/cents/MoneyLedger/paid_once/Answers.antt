-- An amount of a sheet leaves room for its steps up to the last year. Assumes nothing.
use mathlib.Core.Path.{sym, ◌∙◌}
use native.Mathlib.Omega.{arith}
use native.Mathlib.Nat.{add-zero}
use borrow.Author.Tests.{leb-true}
use Rattle.steps.specs.Payment.{once, year}
use Rattle.spreading.specs.LedgerLaws.{cents-counted}
use Rattle.spreading.proofs.cents.MoneyLedger.paid_once.Goals as goal

pub paid_once-requires : goal.paid_once-requires
unfolding once
paid_once-requires c =
    let h = c.requires.0 in
    let m = h.suits in
    let early = m.early in
    let by = leb-true c.args.year c.args.self.last c.requires.1 in
    let amount = h.amount in
    let high = h.high in
    let grown = h.rates.grown in
    (record { inflation = m.inflation; grown = omega arith; room = omega arith }, amount, omega arith)

pub returns : goal.returns
unfolding once year
returns c =
    let a = c.args in
    c.paid_once.ensures ∙ sym (cents-counted a.self (once a.amount a.grow a.year) (rw (add-zero a.year) c.requires.1))
