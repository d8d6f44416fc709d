-- The word is copied. Assumes nothing.
use mathlib.Core.Path.{refl}
use native.Mathlib.Omega.{arith}
use Rattle.lines.proofs.PutLaws.{puts_copied}
use Rattle.lines.proofs.text.put_word.Goals as goal

pub returns : goal.returns
returns c = puts_copied c.args.text.now c.args.word.now c.args.at c.copy_from_slice.ensures.after refl (omega arith)
