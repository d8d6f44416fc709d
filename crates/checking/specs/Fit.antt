-- What passing the checks gives of the parsed sheet, in the code's own terms: the facts that later layers use instead of the check.
-- `FitLaws.antt` derives `Fit`; `SheetFits` adds the planning sheet of which it is the parsed form. Definitions only.
use Rattle.std.specs.Prelude.{ℕ, ◌*◌, ◌≤◌, ◌<◌, ◌≡◌, get_or}
use Rattle.sheet.specs.Sheet.{PlanningSheet}
use Rattle.sheet.specs.Parsed.{parsed}
use Rattle.sheet.specs.declared.Flow.{Flow}
use Rattle.sheet.specs.declared.Overhauls.{Overhauls}
use Rattle.sheet.specs.declared.Sheet.{Sheet}
use Rattle.sheet.specs.declared.Terms.{Terms}

-- a factor of an inflation, against the discount factor
pub record GrowFits (discount grow : ℕ) : Type 0 where
  pub low : 900_000 ≤ grow
  pub high : grow ≤ discount

-- an amount with its factors: neither step raises it, but for rounding
pub record FlowFits (discount : ℕ) (w : Flow) : Type 0 where
  pub amount : w.amount ≤ 1_000_000_000
  pub grow : GrowFits discount w.grow
  pub age_low : 1_000_000 ≤ w.age
  pub age_high : w.age ≤ 1_300_000
  pub product : w.grow * w.age ≤ 1_000_000 * discount

-- at most 8 overhauls are used; their ages rise from 1 to 119
pub record OverhaulsFit (discount : ℕ) (o : Overhauls) : Type 0 where
  pub grow : GrowFits discount o.grow
  pub count : o.count ≤ 8
  pub age_low : (j : ℕ) → j < o.count → 1 ≤ get_or o.ages j 0
  pub age_high : (j : ℕ) → j < o.count → get_or o.ages j 0 ≤ 119
  pub rising : (i j : ℕ) → i < j → j < o.count → get_or o.ages i 0 < get_or o.ages j 0
  pub amount : (j : ℕ) → j < o.count → get_or o.amounts j 0 ≤ 1_000_000_000

-- a life of 0 years goes with an option that is not offered
pub record TermsFit (discount : ℕ) (t : Terms) : Type 0 where
  pub lives : t.shortest ≤ t.longest
  pub longest : t.longest ≤ 120
  pub offered : 1 ≤ t.longest → 1 ≤ t.shortest
  pub investment : FlowFits discount t.investment
  pub maintenance : FlowFits discount t.maintenance
  pub electricity : FlowFits discount t.electricity
  pub overhauls : OverhaulsFit discount t.overhauls
  pub removal : FlowFits discount t.removal

-- a whole sheet
pub record Fit (p : Sheet) : Type 0 where
  pub horizon_low : 1 ≤ p.horizon
  pub horizon_high : p.horizon ≤ 300
  pub discount_low : 1_000_000 ≤ p.discount
  pub discount_high : p.discount ≤ 1_200_000
  pub options : (k : ℕ) (other : Terms) → k < 3 → TermsFit p.discount (get_or p.options k other)

-- a sheet as the code holds it: it fits, and it is the parsed form of a planning sheet
pub record SheetFits (p : Sheet) : Type 0 where
  pub fit : Fit p
  pub sheet : PlanningSheet
  pub read : p ≡ parsed sheet
