-- A year in service more. Assumes nothing.
use native.Mathlib.Omega.{arith}
use Rattle.costing.specs.Arc.{in_year}
use Rattle.spreading.specs.LedgerLaws.{units-fit, units-next}
use Rattle.spreading.proofs.units.DivisorLedger.in_service.Goals as goal

pub in_service-requires : goal.in_service-requires
unfolding in_year
in_service-requires c =
    let h = c.requires in
    let old = h.old in
    let early = h.early in
    rw h.stands (units-fit c.args.self _ h.payable (omega arith))

pub returns : goal.returns
returns c s y old counted stands = units-next c.args.self c.args.flow s y old stands c.in_service.ensures
