-- The running choice that a loop over ascending end years keeps. Definitions only.
use Rattle.std.specs.Prelude.{ℕ, zero, suc, ◌+◌, ◌-◌, ◌^◌, ◌≤◌, ◌≡◌, Bool, true, cond, List, [], ◌∷◌, leb, eqb}
use Rattle.choice.specs.Choice.{Chosen}

-- a least total, and the years of the list that has it
pub record Entry : Type 0 where
  pub total : ℕ
  pub ends : List ℕ

-- where there is no list, the total is 2^64 − 1 and there are no years
abbrev pub no_total : ℕ
no_total = 2 ^ 64 - 1

abbrev pub no_entry : Entry
no_entry = record { total = no_total; ends = [] }

-- what a loop keeps: of the choice so far, of which it reads the total, and of what stands behind an end, of which it reads the total too; and
-- what it keeps of an arc to year e that is taken, with a total and what stands behind it
pub record Keeping : Type 1 where
  pub Choice : Type 0
  pub Behind : Type 0
  pub total : Choice → ℕ
  pub left : Behind → ℕ
  pub taken : (total e : ℕ) → Behind → Choice

-- whole entries: the list begins with e and goes on as the one behind it
abbrev pub entries : Keeping
entries =
    record {
      Choice = Entry;
      Behind = Entry;
      total = λ t. t.total;
      left = λ t. t.total;
      taken = λ total e behind. record { total = total; ends = e ∷ behind.ends };
    }

-- the choice so far, `best`, after an arc of that cost to year e with `behind` it. Where there is no total behind it, nothing changes; else the
-- sum is taken if it is no larger: ends ascend, so of equal totals the later year is taken.
unfoldable pub weigh : (K : Keeping) (best : K.Choice) (cost e : ℕ) (behind : K.Behind) → K.Choice
weigh K best cost e behind =
    cond (eqb (K.left behind) no_total) best
    (cond (leb (cost + K.left behind) (K.total best)) (K.taken (cost + K.left behind) e behind) best)

-- the choice after the k ends s, s + 1, .., of which those that are offered are weighed: what the arc to each costs, and what stands behind it
unfoldable pub over_ends :
    (K : Keeping) (offered : ℕ → Bool) (cost : ℕ → ℕ) (behind : ℕ → K.Behind) (s : ℕ) (best : K.Choice) (k : ℕ) → K.Choice
over_ends K offered cost behind s best zero = best
over_ends K offered cost behind s best (suc k) =
    let so_far = over_ends K offered cost behind s best k in
    cond (offered (s + k)) (weigh K so_far (cost (s + k)) (s + k) (behind (s + k))) so_far

-- an entry is that of a set of lists: there is none, or it has the list chosen and its weight, which is at most a bound
pub data Holds (S : List ℕ → Type 0) (weight : List ℕ → ℕ) (bound : ℕ) (t : Entry) : Type 0 where
  none : t ≡ no_entry → ((xs : List ℕ) → S xs → ⊥) → Holds S weight bound t
  some : Chosen S weight t.ends → weight t.ends ≡ t.total → t.total ≤ bound → Holds S weight bound t

-- lists that begin with a year that is offered, and go on as `Rest` says of that year; and what they weigh
abbrev pub Then : (offered : ℕ → Bool) (Rest : ℕ → List ℕ → Type 0) → List ℕ → Type 0
Then offered Rest [] = ⊥
Then offered Rest (e ∷ es) = (offered e ≡ true) × Rest e es

abbrev pub then_weight : (cost : ℕ → ℕ) (rest : ℕ → List ℕ → ℕ) → List ℕ → ℕ
then_weight cost rest [] = 0
then_weight cost rest (e ∷ es) = cost e + rest e es
