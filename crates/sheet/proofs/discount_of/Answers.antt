-- `discount_of` is the factor of the sheet's rate. Assumes nothing.
use Prim.Native.Nat.{◌+◌}
use Rattle.sheet.specs.Sheet.{sheet_of}
use Rattle.sheet.proofs.discount_of.Goals as goal

pub returns : goal.returns
unfolding sheet_of
returns c = λ i. 1_000_000 + c.u32_at.ensures.0 i
