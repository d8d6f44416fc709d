-- The answers that no tactic finds.
use native.Mathlib.Omega.{arith}
use Rattle.nominal.proofs.SizeLaws.{plains_most, most_room}
use Rattle.nominal.proofs.Cents.plain_years.Goals as goal

pub plain-now-requires : goal.plain-now-requires
plain-now-requires c =
    let h = c.requires in
    let fits = h.0 in
    let few = h.2 in
    record {
      inflation = fits.inflation;
      grown = fits.grown;
      room = rw c.loop.invariant.1
          (most_room c.loop.counter _ (omega arith) (plains_most _ _ fits.inflation fits.grown c.loop.counter _ h.1));
    }
