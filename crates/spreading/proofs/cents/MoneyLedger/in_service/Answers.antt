-- A year in service more, which has a word. Assumes nothing.
use Prim.Native.Nat.{◌+◌}
use native.Mathlib.Omega.{arith}
use Rattle.costing.specs.Arc.{in_year}
use Rattle.spreading.specs.LedgerLaws.{cents-earlier, in_year-counted, cents-fit, cents-next}
use Rattle.spreading.proofs.cents.MoneyLedger.in_service.Goals as goal

pub in_service-requires : goal.in_service-requires
unfolding in_year
in_service-requires c =
    let a = c.args in
    let h = c.requires in
    let now = in_year-counted a.self a.flow h.since h.year h.old (cents-earlier a.self h.year (h.year + 1) (omega arith) h.next) in
    (rw h.stands (cents-fit a.self _ h.payable now), h.payable.aged)

pub returns : goal.returns
returns c s y old counted stands = cents-next c.args.self c.args.flow s y old counted stands c.in_service.ensures
