-- `factor_at`: the four bytes as a u32, then its factor as an i32. Assumes nothing.
use Prim.Native.Nat.{ℕ}
use mathlib.Core.Path.{ap, ◌∙◌}
use mir.Val.{to_z}
use mir.Syntax.{w32}
use Rattle.base.specs.Numbers.{i32_at}
use Rattle.sheet.specs.Sheet.{factor}
use Rattle.sheet.proofs.fields.factor_at.Goals as goal

pub returns : goal.returns
unfolding i32_at
returns c = c.factor_of.ensures ∙ ap (λ (x : ℕ). factor (to_z w32 x)) c.u32_at.ensures.0
