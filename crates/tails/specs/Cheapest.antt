-- What the lent words promise, over the rules alone: document 01, 'Feasible chains', third paragraph, as request 3 of document 02 has it.
-- Definitions only.
use Rattle.std.specs.Prelude.{ℕ, ◌≤◌, ◌<◌, ◌≡◌, List, ◌↔◌, length, get_or}
use Rattle.sheet.specs.Sheet.{PlanningSheet}
use Rattle.choice.specs.Running.{no_total}
use Rattle.chain.specs.Chain.{Reaches, replaced}

-- The least rounded total of replacements alone from y to T, 2^64 − 1 if and only if there are none. Where there are some, the total is that of
-- one of their lists, and no list is cheaper.
pub record Cheapest (p : PlanningSheet) (y total : ℕ) : Type 0 where
  pub none : (total ≡ no_total) ↔ ((ks : List ℕ) → Reaches p y ks → ⊥)
  pub attained : (total ≡ no_total → ⊥) → (ks : List ℕ) × (Reaches p y ks × (replaced p y ks ≡ total))
  pub least : (ks : List ℕ) → Reaches p y ks → total ≤ replaced p y ks

-- The words after planning, and those before: word y for y from 0 to T, and the others, from word T + 1 on, which keep their content.
pub record CheapestWords (p : PlanningSheet) (before after : List ℕ) : Type 0 where
  pub cheapest : (y : ℕ) → y ≤ p.horizon → Cheapest p y (get_or after y 0)
  pub others : (k : ℕ) → p.horizon < k → get_or after k 0 ≡ get_or before k 0
  pub length_kept : length after ≡ length before
