-- New, and then each year in service. Assumes nothing.
use Prim.Native.Nat.{◌+◌}
use native.Mathlib.Omega.{arith}
use Rattle.spreading.proofs.SizeLaws.{new_payable, year_payable}
use Rattle.spreading.proofs.adding.running.Goals as goal

pub paid_once-amount-requires : goal.paid_once-amount-requires
paid_once-amount-requires g c =
    let a = c.args in (
      new_payable (g.L.Ledger.ready a.ledger) a.flow a.since c.requires.0,
      g.met.L.Ledger.earlier a.ledger a.since a.year c.requires.1 c.requires.3,
    )

pub in_service-amount-requires : goal.in_service-amount-requires
in_service-amount-requires g c =
    let a = c.args in
    let l = c.loop in
    record {
      since = a.since;
      year = l.counter;
      old = l.invariant.since;
      early = omega (arith, l.invariant.by, c.requires.2);
      payable = year_payable (g.L.Ledger.ready a.ledger) a.flow a.since l.counter 0 c.requires.0;
      next = g.met.L.Ledger.earlier a.ledger (l.counter + 1) a.year (omega (arith, c.loop-test.true)) c.requires.3;
      stands = l.invariant.stands;
    }
