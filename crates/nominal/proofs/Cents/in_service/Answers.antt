-- Ageing, general inflation, then its own. Assumes nothing.
use native.Mathlib.Omega.{arith}
use Rattle.nominal.specs.Fit.{largest_cents}
use Rattle.nominal.proofs.SizeLaws.{risen-le}
use Rattle.nominal.proofs.Cents.in_service.Goals as goal

pub risen-requires-2 : goal.risen-requires-2
risen-requires-2 c =
    let low = c.requires.0.inflation in
    let aged = c.requires.1 in (
      omega (arith, c.risen.ensures, risen-le c.args.age c.args.self.0 largest_cents 5_200_000_000_001 c.requires.0.room (omega arith)),
      omega arith,
    )

pub risen-requires-3 : goal.risen-requires-3
risen-requires-3 c =
    let low = c.requires.0.inflation in
    let aged = c.requires.1 in
    let first = risen-le c.args.age c.args.self.0 largest_cents 5_200_000_000_001 c.requires.0.room (omega arith) in (
      omega (arith, c.risen-2.ensures, risen-le c.args.general c.risen.result 5_200_000_000_001 5_500_000_000_000 (omega (arith, c.risen.ensures)) (omega arith)),
      omega (arith, c.requires.0.grown),
    )
