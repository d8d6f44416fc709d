-- An arc paid year by year, as the code extends it: the same payments in another order (`walked-paid` in `SumLaws.antt`). Definitions only.
use Rattle.std.specs.Prelude.{ℕ, suc, List, [], ◌∷◌, ◌++◌, eqb}
use Rattle.steps.specs.Payment.{Payment, rounded}
use Rattle.costing.specs.Arc.{investment, maintenance, electricity, age_of, overhaul, for_each, paid_if, worth}
use Rattle.costing.specs.declared.Kept.{Kept}
use Rattle.costing.specs.declared.Walk.{Walk}

-- the j-th overhaul if its age is n, and all overhauls of that age
abbrev pub at_age : Kept → (n j : ℕ) → List Payment
at_age a n j = paid_if (eqb (age_of a j) n) (overhaul a j)

unfoldable pub overhauls_at : Kept → ℕ → List Payment
overhauls_at a n = for_each a.terms.overhauls.count (at_age a n)

-- what year n adds, from 0: the overhauls of that age, and a year of both flows
unfoldable pub added : Kept → ℕ → List Payment
added a n = overhauls_at a n ++ maintenance a (suc n) ∷ electricity a (suc n) ∷ []

-- what has been paid after n years
unfoldable pub walked : Kept → ℕ → List Payment
walked a n = investment a ∷ for_each n (added a)

-- where the code stands after n years
unfoldable pub walk_at : Kept → ℕ → Walk
walk_at a n =
    record {
      cost = record { 0 = worth a (walked a n) };
      maintenance = record { 0 = rounded a.discount (maintenance a n) };
      electricity = record { 0 = rounded a.discount (electricity a n) };
      years = n;
    }
