-- The planning sheet as document 01 describes it, field by field, with the removal of document 02, request 6: `sheet_of` reads one from bytes.
-- Amounts are whole currency units at the price level of year 0; rates are in millionths (40,000 is 4 percent a year). Definitions only.
use Rattle.std.specs.Prelude.{ℕ, suc, ◌+◌, ◌*◌, ◌-◌, Bool, true, false, List, get_or, ℤ, pos, negsuc}
use Rattle.base.specs.Numbers.{u16_at, u32_at, i32_at}
use Rattle.sheet.specs.Layout.{is_long, record_start}

-- an amount with f, its differential inflation, and g, its ageing rate
pub record Expense : Type 0 where
  pub amount : ℕ
  pub inflation : ℤ
  pub ageing : ℕ

-- a payment in the year in which the asset reaches an age
pub record Overhaul : Type 0 where
  pub age : ℕ
  pub amount : ℕ

-- an option's record; investment and removal have no ageing, and `overhaul j` is the j-th of the eight overhauls, from 0
pub record OptionRecord : Type 0 where
  pub shortest : ℕ
  pub longest : ℕ
  pub investment : Expense
  pub maintenance : Expense
  pub electricity : Expense
  pub overhaul_inflation : ℤ
  pub overhaul_count : ℕ
  pub overhaul : ℕ → Overhaul
  pub removal : Expense

-- horizon T, real discount rate r, and the options: maintain is 0, renovate 1, replace 2
pub record PlanningSheet : Type 0 where
  pub version : ℕ
  pub horizon : ℕ
  pub rate : ℕ
  pub option : ℕ → OptionRecord

-- an amount u32, its inflation i32, its ageing u32
unfoldable pub expense_at : List ℕ → ℕ → Expense
expense_at s at = record { amount = u32_at s at; inflation = i32_at s (at + 4); ageing = u32_at s (at + 8) }

-- an amount u32, its inflation i32
unfoldable pub once_at : List ℕ → ℕ → Expense
once_at s at = record { amount = u32_at s at; inflation = i32_at s (at + 4); ageing = 0 }

-- the j-th overhaul of the record that starts at a place: age u16, amount u32
unfoldable pub overhaul_at : List ℕ → (at j : ℕ) → Overhaul
overhaul_at s at j = record { age = u16_at s (at + (41 + 6 * j)); amount = u32_at s (at + (43 + 6 * j)) }

-- what a record of the longer sheet ends with: a removal amount u32, its inflation i32; another sheet is read with removal 0
unfoldable pub removal_at : (long : Bool) → List ℕ → ℕ → Expense
removal_at true s at = once_at s at
removal_at false s at = record { amount = 0; inflation = pos 0; ageing = 0 }

-- the record that starts at a place
unfoldable pub option_at : (long : Bool) → List ℕ → ℕ → OptionRecord
option_at long s at =
    record {
      shortest = u16_at s at;
      longest = u16_at s (at + 2);
      investment = once_at s (at + 4);
      maintenance = expense_at s (at + 12);
      electricity = expense_at s (at + 24);
      overhaul_inflation = i32_at s (at + 36);
      overhaul_count = get_or s (at + 40) 0;
      overhaul = overhaul_at s at;
      removal = removal_at long s (at + 89);
    }

-- behind the three bytes of the mark: version u16, horizon u16, rate u32, then the options' records, of the longer sheet or the other
abbrev pub sheet_as : (long : Bool) → List ℕ → PlanningSheet
sheet_as long s =
    record {
      version = u16_at s 3;
      horizon = u16_at s 5;
      rate = u32_at s 7;
      option = λ k. option_at long s (record_start long k);
    }

-- the layout goes by the length
unfoldable pub sheet_of : List ℕ → PlanningSheet
sheet_of s = sheet_as (is_long s) s

-- a rate's factor, 1,000,000 + f (`factor_value` shows it); 0 where that would be negative, which check 7 refuses
unfoldable pub factor : ℤ → ℕ
factor (pos f) = 1_000_000 + f
factor (negsuc f) = 1_000_000 - suc f

-- the options by their numbers
abbrev pub maintain : ℕ
maintain = 0

abbrev pub renovate : ℕ
renovate = 1

abbrev pub replace : ℕ
replace = 2
