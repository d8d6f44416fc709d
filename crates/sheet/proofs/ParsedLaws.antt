-- Laws of `Parsed.antt`: the terms at an index of the code's options (`get_or_options`), and what a parsed sheet holds of document 01's
-- (`horizon_read`, `discount_read`, `terms_read`). Then, of `Sheet.antt`: neither an investment nor a removal ages, and a sheet that is not the
-- longer one has no removal (`removal_none`). Assumes nothing.
use Prim.Native.Nat.{ℕ, ◌+◌, ◌<◌}
use mathlib.Core.Path.{◌≡◌, refl, ap}
use mathlib.Core.Bool.{Bool, true, false}
use mathlib.Core.List.{List}
use lib.ListN.{get_or}
use Rattle.base.proofs.ListsLaws.{get_or-listed}
use Rattle.sheet.specs.Layout.{is_long, record_start}
use Rattle.sheet.specs.Sheet.{PlanningSheet, once_at, removal_at, option_at, sheet_of}
use Rattle.sheet.specs.Parsed.{terms_of, parsed}
use Rattle.sheet.specs.declared.Sheet.{Sheet}
use Rattle.sheet.specs.declared.Terms.{Terms}

-- the terms of option k
pub get_or_options : (p : PlanningSheet) (k : ℕ) (other : Terms) → k < 3 → get_or (parsed p).options k other ≡ terms_of (p.option k)
unfolding parsed
get_or_options p = get_or-listed 3 (λ k. terms_of (p.option k))

-- what the code reads of a parsed sheet
module _ (s : Sheet) (p : PlanningSheet) (read : s ≡ parsed p) where
  pub horizon_read : s.horizon ≡ p.horizon
  unfolding parsed
  horizon_read = ap (λ (q : Sheet). q.horizon) read

  pub discount_read : s.discount ≡ 1_000_000 + p.rate
  unfolding parsed
  discount_read = ap (λ (q : Sheet). q.discount) read

  pub terms_read : (k : ℕ) (other : Terms) → k < 3 → get_or s.options k other ≡ terms_of (p.option k)
  terms_read k other h = rw read (get_or_options p k other h)

-- an investment does not age
pub investment_ageing : (s : List ℕ) (k : ℕ) → ((sheet_of s).option k).investment.ageing ≡ 0
unfolding sheet_of option_at once_at
investment_ageing s k = refl

removal_at_ageing : (long : Bool) (s : List ℕ) (at : ℕ) → (removal_at long s at).ageing ≡ 0
unfolding removal_at once_at
removal_at_ageing true s at = refl
removal_at_ageing false s at = refl

pub removal_ageing : (s : List ℕ) (k : ℕ) → ((sheet_of s).option k).removal.ageing ≡ 0
unfolding sheet_of option_at
removal_ageing s k = removal_at_ageing (is_long s) s (record_start (is_long s) k + 89)

-- what version 1 is read with, whatever the bytes behind a record are
pub removal_none : (s : List ℕ) (k : ℕ) → is_long s ≡ false → ((sheet_of s).option k).removal.amount ≡ 0
unfolding sheet_of option_at removal_at
removal_none s k short = ap (λ (long : Bool). (removal_at long s (record_start (is_long s) k + 89)).amount) short
