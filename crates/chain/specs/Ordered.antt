-- What the code asks that goes through the arcs of a chain, in pricing and in the budget: years in order, none past T. And what the laws of the
-- size and the error of a chain ask: activities that follow each other. `FeasibleLaws.antt` shows both of every feasible chain.
-- Definitions only.
use Rattle.std.specs.Prelude.{ℕ, ◌≤◌, ◌≡◌, List, [], ◌∷◌}
use Rattle.base.specs.Lists.{Every}
use Rattle.chain.specs.Chain.{Chain, Activity, Rising}

-- y < k1 < k2 < .. < km ≤ T
pub record Climbs (horizon y : ℕ) (ks : List ℕ) : Type 0 where
  pub early : y ≤ horizon
  pub rising : Rising y ks
  pub inside : Every (λ k. k ≤ horizon) ks

-- i ≤ j < k1 < k2 < .. < km ≤ T
pub record Ordered (horizon : ℕ) (c : Chain) : Type 0 where
  pub ordered : c.i ≤ c.j
  pub climbs : Climbs horizon c.j c.ends

-- the first activity starts in year y, each other in the year in which the one before it ends, and the last ends in year z
abbrev pub Linked : ℕ → List Activity → ℕ → Type 0
Linked y [] z = y ≡ z
Linked y (a ∷ l) z = (a.start ≡ y) × Linked a.end l z
