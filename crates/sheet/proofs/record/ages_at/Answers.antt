-- `ages_at` reads the ages of the eight overhauls. Assumes nothing.
use mathlib.Core.List.{[], ◌∷◌}
use Rattle.sheet.specs.Sheet.{overhaul_at}
use Rattle.sheet.proofs.record.ages_at.Goals as goal

pub returns : goal.returns
unfolding overhaul_at
returns c =
    λ i.
    c.u16_at.ensures.0 i
    ∷ c.u16_at-2.ensures.0 i
    ∷ c.u16_at-3.ensures.0 i
    ∷ c.u16_at-4.ensures.0 i
    ∷ c.u16_at-5.ensures.0 i
    ∷ c.u16_at-6.ensures.0 i
    ∷ c.u16_at-7.ensures.0 i
    ∷ c.u16_at-8.ensures.0 i
    ∷ []
