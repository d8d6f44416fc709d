-- General inflation, then its own. Assumes nothing.
use native.Mathlib.Omega.{arith}
use Rattle.nominal.specs.Fit.{largest_cents}
use Rattle.nominal.proofs.SizeLaws.{risen-le}
use Rattle.nominal.proofs.Cents.plain.Goals as goal

pub risen-requires-2 : goal.risen-requires-2
risen-requires-2 c =
    let low = c.requires.inflation in (
      omega (arith, c.risen.ensures, risen-le c.args.general c.args.self.0 largest_cents 5_000_000_000_000 c.requires.room (omega arith)),
      omega (arith, c.requires.grown),
    )
