-- `horizon_of` reads T where the layout has it. Assumes nothing.
use Rattle.sheet.specs.Sheet.{sheet_of}
use Rattle.sheet.proofs.horizon_of.Goals as goal

pub returns : goal.returns
unfolding sheet_of
returns c = c.u16_at.ensures.0
