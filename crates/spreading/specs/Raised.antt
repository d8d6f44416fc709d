-- Words to which was added what falls in their years, as the code does it. Definitions only.
use Rattle.std.specs.Prelude.{ℕ, suc, ◌+◌, ◌≡◌, List, [], ◌∷◌, cond, leb, ltb, get_or}
use Rattle.sheet.specs.declared.Flow.{Flow}
use Rattle.steps.specs.Payment.{Payment, year}
use Rattle.costing.specs.Arc.{in_year, age_of, overhaul, for_each, paid_if}
use Rattle.costing.specs.declared.Kept.{Kept}
use Rattle.nominal.specs.Nominal.{cents}
use Rattle.spreading.specs.Fallen.{in_only, fallen}
use Rattle.spreading.specs.declared.Money.{Money}

-- a figure was added to the word of one year
abbrev pub RaisedIn : (old new : List ℕ) (at figure : ℕ) → Type 0
RaisedIn old new at figure = (y : ℕ) → get_or new y 0 ≡ get_or old y 0 + in_only at figure y

-- to the word of every year was added what of the payments falls in it
abbrev pub Raised : (φ : Payment → ℕ) (old new : List ℕ) → List Payment → Type 0
Raised φ old new qs = (y : ℕ) → get_or new y 0 ≡ get_or old y 0 + fallen φ y qs

-- a figure of the payments that fall in the years 0 to last, and 0 of later ones
unfoldable pub up_to : (last : ℕ) → (Payment → ℕ) → Payment → ℕ
up_to last φ q = cond (leb (year q) last) (φ q) 0

-- money of the year, as the code counts it
abbrev pub in_money : Money → Payment → ℕ
in_money m = up_to m.last (cents m.general)

-- what of the first j overhauls is paid in an arc of n years
abbrev pub first_overhauls : Kept → (n j : ℕ) → List Payment
first_overhauls a n j = for_each j (λ i. paid_if (ltb (age_of a i) n) (overhaul a i))

-- what a flow in service since year s pays in the first n years of an arc from year t
abbrev pub flow_paid : Flow → (s t n : ℕ) → List Payment
flow_paid w s t n = for_each n (λ k. in_year w s t (suc k) ∷ [])
