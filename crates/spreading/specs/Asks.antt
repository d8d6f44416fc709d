-- What the code that adds to the words asks: that the words of the years are there, and that 64 bits suffice. A ledger says for which discount
-- factors it is ready, and which years it counts. Definitions only.
use Rattle.std.specs.Prelude.{ℕ, ◌+◌, ◌*◌, ◌≤◌, ◌<◌, ◌≡◌, Bool, true, List, length, get_or}
use Rattle.nominal.specs.Nominal.{last_nominal}
use Rattle.sheet.specs.declared.Flow.{Flow}
use Rattle.checking.specs.Fit.{FlowFits}
use Rattle.steps.specs.Payment.{Payment}
use Rattle.steps.specs.Fit.{Rates}
use Rattle.costing.specs.Arc.{in_year}
use Rattle.costing.specs.Fit.{yearly, KeptFits}
use Rattle.costing.specs.declared.Kept.{Kept}
use Rattle.spreading.specs.declared.Money.{Money}

-- the words of the years 0 to last are at most b
abbrev pub Below : (last b : ℕ) (words : List ℕ) → Type 0
Below last b words = (y : ℕ) → y ≤ last → get_or words y 0 ≤ b

-- the most that a word may hold before a payment is added, and before an arc is
abbrev pub before_payment : ℕ
before_payment = 1_000_000_000_000_000_000

abbrev pub before_arc : ℕ
before_arc = 100_000_000_000_000_000

-- of the years 0 to last those that are counted have words, and none is above b
pub record Room (counts : ℕ → Bool) (words : List ℕ) (last b : ℕ) : Type 0 where
  pub long : (y : ℕ) → y ≤ last → counts y ≡ true → y < length words
  pub low : (y : ℕ) → y ≤ last → counts y ≡ true → get_or words y 0 ≤ b

-- a payment that the checks let pass, for a discount factor that a ledger is ready for
pub record Payable (ready : ℕ → Type 0) (q : Payment) : Type 0 where
  pub discount : ℕ
  pub suits : ready discount
  pub low : 1_000_000 ≤ discount
  pub high : discount ≤ 1_200_000
  pub rates : Rates discount q
  pub aged : q.age ≤ 1_300_000
  pub amount : q.amount ≤ 1_000_000_000

-- a flow of a sheet that passes the checks, in the same way
pub record FlowPasses (ready : ℕ → Type 0) (w : Flow) : Type 0 where
  pub discount : ℕ
  pub suits : ready discount
  pub low : 1_000_000 ≤ discount
  pub high : discount ≤ 1_200_000
  pub fits : FlowFits discount w

-- what a flow pays in a year by year 600, and the year behind it is counted
pub record Running (ready : ℕ → Type 0) (counts : ℕ → Bool) (figure : Payment → ℕ) (w : Flow) (amount : ℕ) : Type 0 where
  pub since : ℕ
  pub year : ℕ
  pub old : since ≤ year
  pub early : year ≤ 600
  pub payable : Payable ready (in_year w since year 0)
  pub next : counts (year + 1) ≡ true
  pub stands : amount ≡ figure (in_year w since year 0)

-- an arc of an option that passes the checks: until it starts, no word is more than the years before it can have cost
pub record ArcAsks (ready : ℕ → Type 0) (counts : ℕ → Bool) (words : List ℕ) (kept : Kept) (years : ℕ) : Type 0 where
  pub fits : KeptFits kept
  pub suits : ready kept.discount
  pub few : years ≤ 300
  pub room : Room counts words (kept.from + years) (kept.from * yearly)

-- money of the year can be counted: general inflation is at most 5 per cent, the last year at most 15
pub record MoneyFits (m : Money) : Type 0 where
  pub inflation : m.general ≤ 1_050_000
  pub early : m.last ≤ last_nominal
