-- What the code keeps on the way to a chain. Definitions only.
use Rattle.std.specs.Prelude.{ℕ, ◌+◌, ◌≤◌, ◌<◌, ◌≡◌, true, cond, eqb, Option, Some, None, List, length, get_or, take, ◌⊎◌}
use Rattle.base.specs.Lists.{first_of}
use Rattle.base.specs.Tally.{sum_over}
use Rattle.sheet.specs.Layout.{year_places}
use Rattle.sheet.specs.Sheet.{PlanningSheet, maintain, renovate}
use Rattle.sheet.specs.Parsed.{parsed}
use Rattle.sheet.specs.declared.Sheet.{Sheet}
use Rattle.costing.specs.Offered.{offered}
use Rattle.costing.specs.declared.Kept.{Kept}
use Rattle.choice.specs.Running.{Entry, no_total, no_entry, weigh}
use Rattle.chain.specs.Counting.{renovate_arcs_from}
use Rattle.weighing.specs.Best.{in_short, numbers}
use Rattle.weighing.specs.Ends.{best_to, weighed_to, word_of}
use Rattle.weighing.specs.Ahead.{ahead_of, adds_at}
use Rattle.weighing.specs.declared.Best.{Best}
use Rattle.tails.specs.Tail.{tail_from}
use Rattle.front.specs.Planned.{renovated}
use Rattle.front.specs.declared.Front.{Front}

-- total, i and j of the planned chain
abbrev pub front : Entry → Front
front t = record { total = t.total; i = get_or t.ends 0 0; j = get_or t.ends 1 0 }

-- and where there is no chain, none
abbrev pub front_of : Entry → Option Front
front_of t = cond (eqb t.total no_total) None (Some (front t))

-- a list that has a figure of the sheet at each year of a domain, and a place for every year up to 300
pub record Held (figure : PlanningSheet → ℕ → ℕ) (Domain : PlanningSheet → ℕ → Type 0) (s : Sheet) (l : List ℕ) : Type 0 where
  pub room : year_places ≤ length l
  pub held : (p : PlanningSheet) → s ≡ parsed p → (y : ℕ) → Domain p y → get_or l y 0 ≡ figure p y

-- the lent words, once they are written: the least totals of replacements from each year
abbrev pub TailsLent : Sheet → (words : List ℕ) → Type 0
TailsLent = Held (λ p y. (tail_from p y).total) (λ p y. y ≤ p.horizon)

-- the totals behind the ends of renovating: each of those totals, with what ending a renovation in its year adds
abbrev pub AheadLent : Sheet → (ahead : List ℕ) → Type 0
AheadLent = Held (λ p e. ahead_of (tail_from p e).total (adds_at p renovate e)) (λ p e. e ≤ p.horizon)

-- beside the words, the ends of the first of the replacements from each year
abbrev pub FirstsHeld : Sheet → (firsts : List ℕ) → Type 0
FirstsHeld = Held (λ p y. first_of (tail_from p y).ends) (λ p y. y ≤ p.horizon)

-- replacements lead from year j to the horizon
abbrev pub Leads : Sheet → (j : ℕ) → Type 0
Leads s j = (p : PlanningSheet) → s ≡ parsed p → (tail_from p j).total ≡ no_total → ⊥

-- the choice of the end of an option that may also have length 0, which costs nothing and adds nothing to the total from there on
abbrev pub best_kept : Kept → (T behind : ℕ) → (ahead : ℕ → ℕ) → Best
best_kept a T behind ahead = best_to a T ahead (weigh numbers (in_short no_entry) 0 a.from behind)

-- for request 7, which no call answers yet: how many arcs are weighed for it, length 0 and the longer ones
abbrev pub kept_arcs : Kept → (T : ℕ) → ℕ
kept_arcs a T = 1 + weighed_to a T

-- no year has a total yet
abbrev pub NoTotals : List ℕ → Type 0
NoTotals totals = (y : ℕ) → y ≤ 300 → word_of totals y ≡ no_total

-- the least totals of renovating and then replacing, from each year in which maintaining may end, and the ends of renovating from there
abbrev pub TotalsHeld : Sheet → (totals : List ℕ) → Type 0
TotalsHeld = Held (λ p i. (renovated p i).total) (λ p i. offered p maintain 0 i ≡ true)

abbrev pub EndsHeld : Sheet → (ends : List ℕ) → Type 0
EndsHeld = Held (λ p i. first_of (renovated p i).ends) (λ p i. offered p maintain 0 i ≡ true)

-- the first of the ends are those of the replacements from year j, that many
abbrev pub Follows : PlanningSheet → (j count : ℕ) (ends : List ℕ) → Type 0
Follows p j count ends = (count ≡ length (tail_from p j).ends) × (take count ends ≡ (tail_from p j).ends)

-- year e is 0, or a year in which maintaining of at least the shortest life may end
abbrev pub EndsFrom : (shortest e : ℕ) → Type 0
EndsFrom shortest e = (e ≡ 0) ⊎ (shortest ≤ e)

-- for request 7: how many arcs are weighed for the years below i, those of renovating from each end of maintaining
abbrev pub EndsCounted : Sheet → (i arcs : ℕ) → Type 0
EndsCounted s i arcs = (p : PlanningSheet) → s ≡ parsed p → arcs ≡ sum_over (renovate_arcs_from p) 0 i

-- the total and the end of renovating from a year are written
abbrev pub RenovatedAt : PlanningSheet → (totals ends : List ℕ) (e : ℕ) → Type 0
RenovatedAt p totals ends e = (word_of totals e ≡ (renovated p e).total) × (get_or ends e 0 ≡ first_of (renovated p e).ends)

abbrev pub Written : PlanningSheet → (shortest i : ℕ) (totals ends : List ℕ) → Type 0
Written p shortest i totals ends = (e : ℕ) → e < i → EndsFrom shortest e → RenovatedAt p totals ends e
