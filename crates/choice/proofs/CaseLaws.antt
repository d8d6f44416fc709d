-- Closed cases of the definitions: which of two lists comes first, which end a running choice takes, and a small table. Assumes nothing.
use Prim.Native.Nat.{suc}
use mathlib.Core.Path.{◌≡◌, refl}
use mathlib.Core.Bool.{true}
use mathlib.Core.List.{[], ◌∷◌}
use mathlib.Core.Logic.{inl, inr}
use native.Mathlib.Omega.{arith}
use lib.Dec.{eqb}
use Rattle.choice.specs.Choice.{Before}
use Rattle.choice.specs.Running.{no_entry, entries, weigh, over_ends}
use Rattle.choice.specs.Table.{Rule, nothing_left, table}

-- a later first year comes first, whatever follows; of equal first years the later second one
pub later_first : Before (4 ∷ 7 ∷ []) (3 ∷ 9 ∷ []) × Before (4 ∷ 9 ∷ []) (4 ∷ 7 ∷ [])
later_first = (inl (omega arith), inr (refl, inl (omega arith)))

-- the ends 1, 2 and 3, with nothing left to be done behind them: of equal costs the last, else the least
pub equal_costs : over_ends entries (λ e. true) (λ e. 5) (λ e. nothing_left) 1 no_entry 3 ≡ record { total = 5; ends = 3 ∷ [] }
unfolding weigh over_ends
equal_costs = refl

pub least_cost : over_ends entries (λ e. true) (λ e. e) (λ e. nothing_left) 1 no_entry 3 ≡ record { total = 1; ends = 1 ∷ [] }
unfolding weigh over_ends
least_cost = refl

-- only an end that is offered, and only where there is something behind it
pub one_offered : over_ends entries (eqb 2) (λ e. 5) (λ e. nothing_left) 1 no_entry 3 ≡ record { total = 5; ends = 2 ∷ [] }
unfolding weigh over_ends
one_offered = refl

pub none_behind : over_ends entries (λ e. true) (λ e. 5) (λ e. no_entry) 1 no_entry 3 ≡ no_entry
unfolding weigh over_ends
none_behind = refl

-- T = 2, and a year's entry goes on to the next year at a cost of 1
abbrev one_year_on : Rule
one_year_on later y = over_ends entries (eqb (suc y)) (λ e. 1) later y no_entry 3

pub two_years : table 2 one_year_on 2 ≡ record { total = 2; ends = 1 ∷ 2 ∷ [] } ∷ record { total = 1; ends = 2 ∷ [] } ∷ nothing_left ∷ []
unfolding weigh over_ends table
two_years = refl
