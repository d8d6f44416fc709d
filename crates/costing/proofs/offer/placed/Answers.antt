-- The test, as the definition has it. Assumes nothing.
use mathlib.Core.Path.{refl}
use Rattle.costing.proofs.offer.placed.Goals as goal

pub returns : goal.returns
returns c = refl
