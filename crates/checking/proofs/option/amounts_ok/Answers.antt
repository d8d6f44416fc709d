-- Refusal 6 on a struct's amounts is refusal 6. Assumes nothing.
use mathlib.Core.Path.{refl}
use Rattle.checking.proofs.option.amounts_ok.Goals as goal

pub returns : goal.returns
returns c = refl
