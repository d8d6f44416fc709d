-- The longer sheet is told by its length. Assumes nothing.
use mathlib.Core.Path.{refl}
use Rattle.sheet.proofs.is_long.Goals as goal

pub returns : goal.returns
returns c = refl
