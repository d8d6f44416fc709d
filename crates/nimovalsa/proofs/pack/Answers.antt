-- `pack` is `packed`, and gives the three parts back. Assumes nothing.
use native.Mathlib.Omega.{arith}
use Rattle.nimovalsa.specs.Packed.{packed}
use Rattle.nimovalsa.proofs.PackedLaws.{packed_returns}
use Rattle.nimovalsa.proofs.pack.Goals as goal

pub returns : goal.returns
unfolding packed
returns c = packed_returns _ _ c.requires (omega arith)
