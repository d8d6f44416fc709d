-- `age_of` reads an overhaul's age where the layout has it. Assumes nothing.
use Prim.Native.Nat.{ℕ}
use mathlib.Core.Path.{ap, ◌∙◌}
use Rattle.sheet.specs.Sheet.{overhaul_at, option_at, sheet_of}
use Rattle.sheet.proofs.age_of.Goals as goal

pub returns : goal.returns
unfolding sheet_of option_at overhaul_at
returns c =
    c.u16_at.ensures.0
    ∙ ap (λ (at : ℕ). (overhaul_at c.args.s.now at c.args.j).age) c.start_of.ensures.starts
