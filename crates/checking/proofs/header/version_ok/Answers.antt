-- The test of a version, as the definition has it. Assumes nothing.
use mathlib.Core.Path.{refl}
use Rattle.checking.proofs.header.version_ok.Goals as goal

pub returns : goal.returns
returns c = refl
