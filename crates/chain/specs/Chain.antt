-- Chains, which of them are feasible, and what they cost: document 01, 'Feasible chains'. Definitions only.
use Rattle.std.specs.Prelude.{ℕ, ◌≤◌, ◌<◌, ◌≡◌, List, [], ◌∷◌, map}
use Rattle.base.specs.Lists.{Every, sum_of}
use Rattle.sheet.specs.Sheet.{PlanningSheet, maintain, renovate, replace}
use Rattle.costing.specs.Arc.{Arc, arc_of, cost, exact_cost}
use Rattle.costing.specs.Offered.{Offered}

-- A chain is i, j and m end years k1, k2, .., km.
pub record Chain : Type 0 where
  pub i : ℕ
  pub j : ℕ
  pub ends : List ℕ

-- an activity: an option, the year in which it starts and the year in which it ends; on a sheet it is an arc
pub record Activity : Type 0 where
  pub option : ℕ
  pub start : ℕ
  pub end : ℕ

infix 70 ◌from◌to◌
abbrev pub ◌from◌to◌ : (option start end : ℕ) → Activity
option from start to end = record { option = option; start = start; end = end }

-- replacements from y to k1, k1 to k2 and so on
unfoldable pub replacements : ℕ → List ℕ → List Activity
replacements y [] = []
replacements y (k ∷ ks) = replace from y to k ∷ replacements k ks

-- maintain runs from 0 to i, renovate from i to j, replacements from j to k1, k1 to k2 and so on
unfoldable pub activities : Chain → List Activity
activities c = maintain from 0 to c.i ∷ renovate from c.i to c.j ∷ replacements c.j c.ends

-- y < k1 < k2 < .. < km
abbrev pub Rising : ℕ → List ℕ → Type 0
Rising y [] = Unit {0}
Rising y (k ∷ ks) = (y < k) × Rising k ks

-- the last of y, k1, k2, .., km
unfoldable pub last : ℕ → List ℕ → ℕ
last y [] = y
last y (k ∷ ks) = last k ks

-- an activity of a length that its option offers: between its shortest and longest life, or 0 for maintain and renovate
abbrev pub OffersActivity : PlanningSheet → Activity → Type 0
OffersActivity p a = Offered p a.option a.start a.end

-- replacements alone lead from year y to T
pub record Reaches (p : PlanningSheet) (y : ℕ) (ks : List ℕ) : Type 0 where
  pub offered : Every (OffersActivity p) (replacements y ks)
  pub arrived : last y ks ≡ p.horizon

-- What makes a chain feasible, in document 01's order: i ≤ j, and j < k1 < k2 < .. < km; each length is offered; all years are at most T;
-- the last activity ends at T, which is m = 0 and j = T, or km = T.
pub record Feasible (p : PlanningSheet) (c : Chain) : Type 0 where
  pub ordered : c.i ≤ c.j
  pub rising : Rising c.j c.ends
  pub offered : Every (OffersActivity p) (activities c)
  pub inside : Every (λ y. y ≤ p.horizon) (c.i ∷ c.j ∷ c.ends)
  pub arrived : last c.j c.ends ≡ p.horizon

-- the arcs of activities
unfoldable pub arcs_of : PlanningSheet → List Activity → List Arc
arcs_of p l = map (λ (a : Activity). arc_of p a.option a.start a.end) l

-- what activities cost
abbrev pub spent : PlanningSheet → List Activity → ℕ
spent p l = sum_of cost (arcs_of p l)

abbrev pub arcs : PlanningSheet → Chain → List Arc
arcs p c = arcs_of p (activities c)

-- the rounded total is the sum of the arcs
unfoldable pub rounded_total : PlanningSheet → Chain → ℕ
rounded_total p c = sum_of cost (arcs p c)

-- the exact value adds the same payments as the arcs do, without rounding; it is over document 01's common denominator
unfoldable pub exact_value : PlanningSheet → Chain → ℕ
exact_value p c = sum_of exact_cost (arcs p c)

-- the rounded total of replacements from year y with these ends
abbrev pub replaced : PlanningSheet → ℕ → List ℕ → ℕ
replaced p y ks = spent p (replacements y ks)
