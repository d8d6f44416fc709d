-- What `Cheapest` says of year T: the total is 0 (`cheapest_last`), and so word T is 0 (`words_last`). Assumes nothing.
use Prim.Native.Nat.{ℕ}
use mathlib.Core.Path.{◌≡◌, refl}
use mathlib.Core.List.{List, []}
use native.Mathlib.Omega.{arith}
use lib.ListN.{get_or}
use Rattle.base.specs.Lists.{sum_of}
use Rattle.sheet.specs.Sheet.{PlanningSheet}
use Rattle.chain.specs.Chain.{replacements, last, Reaches, arcs_of, replaced}
use Rattle.tails.specs.Cheapest.{Cheapest, CheapestWords}

module _ (p : PlanningSheet) where
  -- from T the empty list reaches T, and it costs nothing
  last_reached : Reaches p p.horizon []
  unfolding replacements last
  last_reached = record { offered = tt; arrived = refl }

  last_free : replaced p p.horizon [] ≡ 0
  unfolding sum_of arcs_of replacements
  last_free = refl

  pub cheapest_last : (total : ℕ) → Cheapest p p.horizon total → total ≡ 0
  cheapest_last total h = omega (arith, h.least [] last_reached, last_free)

  pub words_last : (before after : List ℕ) → CheapestWords p before after → get_or after p.horizon 0 ≡ 0
  words_last before after h = cheapest_last _ (h.cheapest p.horizon (omega arith))
