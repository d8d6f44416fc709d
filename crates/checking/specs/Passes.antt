-- What it means that a sheet passes the checks: none of refusals 1 to 9 holds for it. Document 01, 'Refusal table'.
-- `PassesLaws.antt` shows that `checked` answers 0 exactly for these sheets. Definitions only.
use Rattle.std.specs.Prelude.{ℕ, ◌+◌, ◌*◌, ◌≤◌, ◌<◌, ◌≡◌, List, ◌⊎◌, length, get_or, ℤ, pos, neg_ℤ, ◌≤ℤ◌}
use Rattle.sheet.specs.Sheet.{Expense, OptionRecord, sheet_of, factor}
use Rattle.checking.specs.Refusals.{age_before}

-- 5: lives both 0, which means not offered, or 1 ≤ shortest ≤ longest ≤ 120
abbrev pub LivesPass : ℕ → ℕ → Type 0
LivesPass shortest longest =
    ((shortest ≡ 0) × (longest ≡ 0)) ⊎ ((1 ≤ shortest) × (shortest ≤ longest) × (longest ≤ 120))

-- 6 and 9: an amount is at most 10^9
abbrev pub AmountPasses : ℕ → Type 0
AmountPasses amount = amount ≤ 1_000_000_000

-- 7: an inflation is from −100,000 to r
pub record InflationPasses (r : ℕ) (f : ℤ) : Type 0 where
  pub low : neg_ℤ (pos 100_000) ≤ℤ f
  pub high : f ≤ℤ pos r

-- 8: an ageing is at most 300,000, and (10^6 + f)(10^6 + g) at most 10^6 (10^6 + r)
pub record AgeingPasses (r : ℕ) (e : Expense) : Type 0 where
  pub ageing : e.ageing ≤ 300_000
  pub product : factor e.inflation * (1_000_000 + e.ageing) ≤ 1_000_000 * (1_000_000 + r)

-- 9, a used entry: its age is 1 to 119 and above the one before, its amount at most 10^9
pub record UsedPasses (o : OptionRecord) (j : ℕ) : Type 0 where
  pub low : 1 ≤ (o.overhaul j).age
  pub high : (o.overhaul j).age ≤ 119
  pub rising : age_before o j < (o.overhaul j).age
  pub amount : AmountPasses (o.overhaul j).amount

-- 9, an unused entry is zero
pub record UnusedPasses (o : OptionRecord) (j : ℕ) : Type 0 where
  pub age : (o.overhaul j).age ≡ 0
  pub amount : (o.overhaul j).amount ≡ 0

-- 5 to 9 for an option's record, offered or not
pub record OptionPasses (r : ℕ) (o : OptionRecord) : Type 0 where
  pub lives : LivesPass o.shortest o.longest
  pub investment_amount : AmountPasses o.investment.amount
  pub maintenance_amount : AmountPasses o.maintenance.amount
  pub electricity_amount : AmountPasses o.electricity.amount
  pub removal_amount : AmountPasses o.removal.amount
  pub investment_inflation : InflationPasses r o.investment.inflation
  pub maintenance_inflation : InflationPasses r o.maintenance.inflation
  pub electricity_inflation : InflationPasses r o.electricity.inflation
  pub overhaul_inflation : InflationPasses r o.overhaul_inflation
  pub removal_inflation : InflationPasses r o.removal.inflation
  pub maintenance_ageing : AgeingPasses r o.maintenance
  pub electricity_ageing : AgeingPasses r o.electricity
  pub count : o.overhaul_count ≤ 8
  pub used : (j : ℕ) → j < o.overhaul_count → UsedPasses o j
  pub unused : (j : ℕ) → o.overhaul_count ≤ j → j < 8 → UnusedPasses o j

-- 1 to 4 for a sheet
pub record HeaderPasses (s : List ℕ) : Type 0 where
  pub long : (length s ≡ 278) ⊎ (length s ≡ 302)
  pub mark : (get_or s 0 0 ≡ 82) × (get_or s 1 0 ≡ 67) × (get_or s 2 0 ≡ 83)
  pub version : ((length s ≡ 278) × ((sheet_of s).version ≡ 1)) ⊎ ((length s ≡ 302) × ((sheet_of s).version ≡ 2))
  pub horizon : (1 ≤ (sheet_of s).horizon) × ((sheet_of s).horizon ≤ 300)
  pub rate : (sheet_of s).rate ≤ 200_000

-- 1 to 9 for a sheet
pub record Passes (s : List ℕ) : Type 0 where
  pub header : HeaderPasses s
  pub options : (k : ℕ) → k < 3 → OptionPasses (sheet_of s).rate ((sheet_of s).option k)
