-- Laws of `Holds`: the entry of a set has the total 2^64 − 1 exactly when the set is empty (`holds_none`), and then it is the entry of none
-- (`holds_no_entry`); else it has the chosen list and its weight (`holds_chosen`). No list of the set weighs less than its total
-- (`holds_least`), and it depends only on which lists are in the set and on their weights (`holds_same`). Assumes nothing.
use Prim.Native.Nat.{ℕ, ◌≤◌, ◌<◌}
use mathlib.Core.Path.{◌≡◌}
use mathlib.Core.List.{List}
use mathlib.Core.Logic.{◌↔◌}
use native.Mathlib.Omega.{arith}
use Rattle.choice.specs.Choice.{Chosen}
use Rattle.choice.specs.Running.{Entry, no_total, no_entry, Holds, none, some}
use Rattle.choice.proofs.ChoiceLaws.{chosen_le, chosen_same}

module _ (S : List ℕ → Type 0) (weight : List ℕ → ℕ) (bound : ℕ) (t : Entry) where
  pub holds_none : Holds S weight bound t → bound < no_total → (t.total ≡ no_total) ↔ ((xs : List ℕ) → S xs → ⊥)
  holds_none (none e never) small = (λ q. never, λ q. rw e)
  holds_none (some c e l) small = (λ q. absurd (omega arith), λ never. absurd (never t.ends c.member))

  pub holds_no_entry : Holds S weight bound t → bound < no_total → t.total ≡ no_total → t ≡ no_entry
  holds_no_entry (none e never) small q = e
  holds_no_entry (some c e l) small q = absurd (omega arith)

  pub holds_chosen :
      Holds S weight bound t → (t.total ≡ no_total → ⊥) → Chosen S weight t.ends × (weight t.ends ≡ t.total) × (t.total ≤ bound)
  holds_chosen (none e never) there = absurd (there (rw e))
  holds_chosen (some c e l) there = (c, e, l)

  pub holds_least : Holds S weight bound t → bound < no_total → (xs : List ℕ) → S xs → t.total ≤ weight xs
  holds_least (none e never) small xs m = absurd (never xs m)
  holds_least (some c e l) small xs m = omega (arith, chosen_le S weight t.ends c xs m)

pub holds_same :
    (S S' : List ℕ → Type 0) (w w' : List ℕ → ℕ) → ((xs : List ℕ) → S xs ↔ S' xs) → ((xs : List ℕ) → S xs → w xs ≡ w' xs)
    → (bound : ℕ) (t : Entry) → Holds S w bound t → Holds S' w' bound t
holds_same S S' w w' same equal bound t (none e never) = none e (λ xs m. never xs ((same xs).1 m))
holds_same S S' w w' same equal bound t (some c e l) =
    some (chosen_same S S' w w' same equal t.ends c) (rw (equal t.ends c.member) at e) l
