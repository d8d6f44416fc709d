-- Which plan bytes pricing refuses: row 14 of document 01's refusal table, as tests. `FittingLaws.antt` shows what they mean.
-- Definitions only.
use Rattle.std.specs.Prelude.{ℕ, List, [], ◌∷◌, Bool, ◌&&◌, eqb}
use Rattle.sheet.specs.Sheet.{PlanningSheet, maintain, renovate, replace}
use Rattle.costing.specs.Offered.{offered}
use Rattle.chain.specs.Chain.{Chain}
use Rattle.chain.specs.PlanBytes.{decode, shaped}

-- replacements with these ends lead from year y to T
unfoldable pub reaches : PlanningSheet → ℕ → List ℕ → Bool
reaches p y [] = eqb y p.horizon
reaches p y (k ∷ ks) = offered p replace y k && reaches p k ks

-- a feasible chain
unfoldable pub feasible : PlanningSheet → Chain → Bool
feasible p c = offered p maintain 0 c.i && (offered p renovate c.i c.j && reaches p c.j c.ends)

-- plan bytes of a feasible chain
unfoldable pub fitting : PlanningSheet → List ℕ → Bool
fitting p plan = shaped plan && feasible p (decode plan)
