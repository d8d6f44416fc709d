-- The chain that planning returns: document 01, 'Feasible chains', second paragraph. Definitions only.
use Rattle.std.specs.Prelude.{◌<◌, ◌≡◌, ◌⊎◌}
use Rattle.sheet.specs.Sheet.{PlanningSheet}
use Rattle.choice.specs.Choice.{Before}
use Rattle.chain.specs.Chain.{Chain, Feasible, rounded_total}

-- of equal totals c is taken rather than d: the largest i, then the largest j, then, at the first replacement where they differ, the later end
-- (or d is c)
abbrev pub TakenBefore : (c d : Chain) → Type 0
TakenBefore c d =
    (d.i < c.i)
    ⊎ ((c.i ≡ d.i)
    × ((d.j < c.j)
    ⊎ ((c.j ≡ d.j)
    × Before c.ends d.ends)))

-- c is of a smaller rounded total than d; or of the same, and taken before it
abbrev pub NotWorseThan : PlanningSheet → (c d : Chain) → Type 0
NotWorseThan p c d = (rounded_total p c < rounded_total p d) ⊎ ((rounded_total p c ≡ rounded_total p d) × TakenBefore c d)

-- a feasible chain that is not worse than any other
pub record ChosenChain (p : PlanningSheet) (c : Chain) : Type 0 where
  pub feasible : Feasible p c
  pub least : (d : Chain) → Feasible p d → NotWorseThan p c d
