-- What the code of an arc asks so that 64 bits suffice. `SizeLaws.antt` and `SheetArcLaws.antt` derive it from the facts of the check.
-- Definitions only.
use Rattle.std.specs.Prelude.{ℕ, suc, ◌*◌, ◌≤◌, ◌<◌, ◌+◌}
use Rattle.sheet.specs.declared.Flow.{Flow}
use Rattle.checking.specs.Fit.{FlowFits, TermsFit}
use Rattle.division.specs.Division.{DivisorReady}
use Rattle.division.specs.declared.Divisor.{Divisor}
use Rattle.steps.specs.Step.{above, below}
use Rattle.steps.specs.Payment.{Payment}
use Rattle.steps.specs.Fit.{largest_payment, Divides}
use Rattle.costing.specs.Arc.{Arc, investment, maintenance, electricity, overhaul, removal}
use Rattle.costing.specs.declared.Kept.{Kept}

-- the most that a year of an arc can cost: 12 payments, one of them removal
abbrev pub yearly : ℕ
yearly = 12 * largest_payment

-- a flow of a sheet that passes the checks, with the divisor of its discount factor at hand
pub record FlowSteps (d : Divisor) (w : Flow) : Type 0 where
  pub ready : DivisorReady d
  pub low : 1_000_000 ≤ d.by
  pub high : d.by ≤ 1_200_000
  pub fits : FlowFits d.by w

-- an option of a sheet that passes the checks, kept from a year up to 300, with motors that are not newer
pub record KeptFits (a : Kept) : Type 0 where
  pub low : 1_000_000 ≤ a.discount
  pub high : a.discount ≤ 1_200_000
  pub terms : TermsFit a.discount a.terms
  pub from : a.from ≤ 300
  pub since : a.since ≤ a.from

-- a figure that is at most `largest_payment` of each payment of an arc of n years
pub record Small (φ : Payment → ℕ) (a : Kept) (n : ℕ) : Type 0 where
  pub invested : φ (investment a) ≤ largest_payment
  pub overhauled : (j : ℕ) → j < a.terms.overhauls.count → φ (overhaul a j) ≤ largest_payment
  pub maintained : (k : ℕ) → k < n → φ (maintenance a (suc k)) ≤ largest_payment
  pub powered : (k : ℕ) → k < n → φ (electricity a (suc k)) ≤ largest_payment
  pub removed : φ (removal a (a.from + n)) ≤ largest_payment

-- an option whose steps the code can take: it fits, and the divisor of its discount factor is at hand
pub record Steppable (a : Kept) (d : Divisor) : Type 0 where
  pub fits : KeptFits a
  pub divides : Divides d a.discount

-- an arc of an option that passes the checks, by the horizon
pub record ArcFits (a : Arc) : Type 0 where
  pub kept : KeptFits a.kept
  pub inside : a.kept.from + a.years ≤ a.horizon

-- units against e / D: four times the difference is at most `above` times B − A above it, and `below` times B − A below
pub record Between (units e D A B : ℕ) : Type 0 where
  pub high : 4 * (units * D) + above * (A * D) ≤ 4 * e + above * (B * D)
  pub low : 4 * e + below * (A * D) ≤ 4 * (units * D) + below * (B * D)
