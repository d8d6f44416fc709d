-- Refusal 5 on a struct's lives is refusal 5. Assumes nothing.
use mathlib.Core.Path.{refl}
use Rattle.checking.proofs.option.lives_ok.Goals as goal

pub returns : goal.returns
returns c = refl
