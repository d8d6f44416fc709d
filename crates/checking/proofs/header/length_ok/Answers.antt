-- Refusal 1 on a length is refusal 1. Assumes nothing.
use mathlib.Core.Path.{refl}
use Rattle.checking.proofs.header.length_ok.Goals as goal

pub returns : goal.returns
returns c = refl
