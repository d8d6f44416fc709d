-- What an arc pays and what it costs: document 01, 'What an arc costs', and document 02, requests 4 and 6. Definitions only.
use Rattle.std.specs.Prelude.{ℕ, zero, suc, ◌+◌, ◌-◌, List, [], ◌∷◌, ◌++◌, Bool, cond, ◌&&◌, ◌||◌, eqb, ltb, get_or}
use Rattle.base.specs.Lists.{sum_of}
use Rattle.sheet.specs.Sheet.{PlanningSheet, renovate, replace}
use Rattle.sheet.specs.Parsed.{terms_of, no_terms}
use Rattle.sheet.specs.declared.Flow.{Flow}
use Rattle.sheet.specs.declared.Sheet.{Sheet}
use Rattle.sheet.specs.declared.Terms.{Terms}
use Rattle.steps.specs.Payment.{Payment, rounded, once}
use Rattle.steps.specs.Exact.{exact}
use Rattle.costing.specs.declared.Kept.{Kept}

-- An arc is an option kept from year t to year t + n. `kept` has the option's terms, the discount factor, the year since which its motors are
-- in service, and t (all that is known of an arc before its end), `years` is n, `horizon` is T, and `removed` says whether its option pays
-- removal.
pub record Arc : Type 0 where
  pub kept : Kept
  pub years : ℕ
  pub horizon : ℕ
  pub removed : Bool

-- Renovating renews the building, while the motors go on ageing (document 02, request 4): every other option has new ones.
abbrev pub keeps_motors : (option : ℕ) → Bool
keeps_motors option = eqb option renovate

-- A renovation or replacement pays removal, maintaining none (document 02, request 6).
abbrev pub pays_removal : (option : ℕ) → Bool
pays_removal option = eqb option renovate || eqb option replace

-- the year since which the motors of an option that starts in a year are in service: that year, or year 0 if they are kept
unfoldable pub since_of : (option start : ℕ) → ℕ
since_of option start = cond (keeps_motors option) 0 start

-- an option on its terms with motors in service since a year, kept from a year on: every `Kept` is made by this
abbrev pub kept_on : Terms → (discount since start : ℕ) → Kept
kept_on terms discount since start = record { terms = terms; discount = discount; since = since; from = start }

-- an option of a sheet as the code holds it, and the same option kept from another year, with new motors
abbrev pub kept_of : Sheet → (option start : ℕ) → Kept
kept_of s option start = kept_on (get_or s.options option no_terms) s.discount (since_of option start) start

abbrev pub kept_from : Kept → (start : ℕ) → Kept
kept_from a start = kept_on a.terms a.discount start start

-- the arc of a sheet's option from a start to an end
unfoldable pub arc_of : PlanningSheet → (option start end : ℕ) → Arc
arc_of p option start end =
    record {
      kept = kept_on (terms_of (p.option option)) (1_000_000 + p.rate) (since_of option start) start;
      years = end - start;
      horizon = p.horizon;
      removed = pays_removal option;
    }

-- What a flow, an amount paid each year with the factors of its rates, pays in year k of an arc from year t, if it is in service since year
-- s: after s plain steps, and then a step in service for each of the t − s years before the arc and of the k years in it.
unfoldable pub in_year : Flow → (s t k : ℕ) → Payment
in_year w s t k = record { amount = w.amount; grow = w.grow; age = w.age; plainly = s; served = t - s + k }

-- the investment after t plain steps
unfoldable pub investment : Kept → Payment
investment a = once a.terms.investment.amount a.terms.investment.grow a.from

-- maintenance after t plain steps and then k in-service steps
unfoldable pub maintenance : Kept → ℕ → Payment
maintenance a k = in_year a.terms.maintenance a.from a.from k

-- electricity in the same way, with its own f and g; where motors are kept, after t + k in-service steps and no plain ones
unfoldable pub electricity : Kept → ℕ → Payment
electricity a k = in_year a.terms.electricity a.since a.from k

-- the age of the j-th overhaul, from 0, and the overhaul itself, after t + age plain steps
unfoldable pub age_of : Kept → ℕ → ℕ
age_of a j = get_or a.terms.overhauls.ages j 0

unfoldable pub overhaul : Kept → ℕ → Payment
overhaul a j = once (get_or a.terms.overhauls.amounts j 0) a.terms.overhauls.grow (a.from + age_of a j)

-- the payments of f 0, of f 1, .., of f (n − 1)
unfoldable pub for_each : ℕ → (ℕ → List Payment) → List Payment
for_each zero f = []
for_each (suc n) f = for_each n f ++ f n

-- a payment where something holds, else none
unfoldable pub paid_if : Bool → Payment → List Payment
paid_if holds p = cond holds (p ∷ []) []

-- each overhaul of age less than n
unfoldable pub overhauls_below : Kept → ℕ → List Payment
overhauls_below a n = for_each a.terms.overhauls.count (λ j. paid_if (ltb (age_of a j) n) (overhaul a j))

-- Length n = 0 costs 0, investment included. For n of 1 or more: the investment; each overhaul of age less than n; for each k from 1 to n
-- maintenance, and electricity in the same way.
unfoldable pub paid : Kept → ℕ → List Payment
paid a zero = []
paid a (suc n) =
    investment a
    ∷ overhauls_below a (suc n)
    ++ for_each (suc n) (λ k. maintenance a (suc k) ∷ [])
    ++ for_each (suc n) (λ k. electricity a (suc k) ∷ [])

-- removal paid in year u: after u plain steps
unfoldable pub removal : Kept → (u : ℕ) → Payment
removal a u = once a.terms.removal.amount a.terms.removal.grow u

-- An arc of positive length that ends before T pays removal in its end year, if its option pays one.
abbrev pub closes : Kept → (removed : Bool) (years horizon : ℕ) → Bool
closes a removed years horizon = removed && ltb 0 years && ltb (a.from + years) horizon

unfoldable pub closing : Kept → (removed : Bool) (years horizon : ℕ) → List Payment
closing a removed years horizon = paid_if (closes a removed years horizon) (removal a (a.from + years))

-- all that an arc pays
unfoldable pub payments : Arc → List Payment
payments a = paid a.kept a.years ++ closing a.kept a.removed a.years a.horizon

-- what payments of an option cost in units
abbrev pub worth : Kept → List Payment → ℕ
worth a ps = sum_of (rounded a.discount) ps

-- what an arc of an option that is kept costs in units, removal included
abbrev pub whole_worth : Kept → (removed : Bool) (years horizon : ℕ) → ℕ
whole_worth a removed years horizon = worth a (paid a years) + worth a (closing a removed years horizon)

-- an arc's cost in units, and its exact value over the common denominator: sums over the same payments
unfoldable pub cost : Arc → ℕ
cost a = worth a.kept (payments a)

unfoldable pub exact_cost : Arc → ℕ
exact_cost a = sum_of (exact a.horizon a.kept.discount) (payments a)

-- what an arc of an option from y to e costs
abbrev pub cost_to : PlanningSheet → (option y e : ℕ) → ℕ
cost_to p option y e = cost (arc_of p option y e)
