-- `amount_of` reads an overhaul's amount where the layout has it. Assumes nothing.
use Prim.Native.Nat.{ℕ}
use mathlib.Core.Path.{ap, ◌∙◌}
use Rattle.sheet.specs.Sheet.{overhaul_at, option_at, sheet_of}
use Rattle.sheet.proofs.amount_of.Goals as goal

pub returns : goal.returns
unfolding sheet_of option_at overhaul_at
returns c =
    c.u32_at.ensures.0
    ∙ ap (λ (at : ℕ). (overhaul_at c.args.s.now at c.args.j).amount) c.start_of.ensures.starts
