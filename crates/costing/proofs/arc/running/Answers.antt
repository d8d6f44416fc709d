-- The plain steps, then those in service, for which the amount leaves room. Assumes nothing.
use Prim.Native.Nat.{◌*◌, ◌≤◌}
use native.Mathlib.Omega.{arith}
use Rattle.steps.proofs.RoomLaws.{amount_fits, once-le}
use Rattle.costing.proofs.WalkLaws.{in_year-zero}
use Rattle.costing.proofs.arc.running.Goals as goal

pub overflow_sub-served : goal.overflow_sub-served
overflow_sub-served c = c.requires.1

pub paid_once-new-requires : goal.paid_once-new-requires
paid_once-new-requires c =
    let h = c.requires.0 in
    amount_fits _ _ _ h.low h.high h.fits.grow.high h.fits.amount

pub service_years-requires : goal.service_years-requires
service_years-requires c =
    let a = c.args in
    let h = c.requires.0 in
    let low = h.low in
    let small : c.paid_once-new.result.0 ≤ a.flow.amount * 10_000 = rw c.paid_once-new.ensures (once-le _ _ _ _ (omega arith) h.fits.grow.high) in
    record {
      plainly = record { low = low; high = h.high; grown = h.fits.grow.high; room = omega (arith, h.fits.amount, c.requires.1, c.requires.2) };
      aged = h.fits.age_high;
      product = h.fits.product;
    }

pub returns : goal.returns
returns c =
    let a = c.args in
    in_year-zero a.discount.by a.flow a.since a.from _ _ (omega arith) (omega arith) c.paid_once-new.ensures c.service_years.ensures
