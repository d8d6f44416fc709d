-- Chains as lists of years: i, j, k1, k2, .., km. `ChosenLaws.antt` shows that the list which is chosen of them is that of the chosen chain.
-- Definitions only.
use Rattle.std.specs.Prelude.{ℕ, List, ◌∷◌, get_or, drop}
use Rattle.sheet.specs.Sheet.{PlanningSheet, maintain, renovate}
use Rattle.costing.specs.Arc.{cost_to}
use Rattle.costing.specs.Offered.{offered}
use Rattle.choice.specs.Running.{Then, then_weight}
use Rattle.chain.specs.Chain.{Chain, Reaches, replaced}

-- the years of a chain, and the chain of these years
abbrev pub years : Chain → List ℕ
years c = c.i ∷ c.j ∷ c.ends

abbrev pub chain_of : List ℕ → Chain
chain_of ys = record { i = get_or ys 0 0; j = get_or ys 1 0; ends = drop 2 ys }

module _ (p : PlanningSheet) where
  -- j, k1, .., km: renovating from i to an offered j, and replacements from there to T; and what they cost
  abbrev pub Renovates : ℕ → List ℕ → Type 0
  Renovates i = Then (offered p renovate i) (Reaches p)

  abbrev pub renovating : ℕ → List ℕ → ℕ
  renovating i = then_weight (cost_to p renovate i) (replaced p)

  -- i, j, k1, .., km: maintaining from 0 to an offered i, and the others from there
  abbrev pub Maintains : List ℕ → Type 0
  Maintains = Then (offered p maintain 0) Renovates

  abbrev pub maintaining : List ℕ → ℕ
  maintaining = then_weight (cost_to p maintain 0) renovating
