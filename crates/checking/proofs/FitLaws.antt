-- A sheet that passes the checks gives a parsed sheet that fits (`fit`); before it, the same of a factor, a flow, the overhauls and an
-- option's terms. Assumes nothing.
use Prim.Native.Nat.{ℕ, zero, suc, ◌+◌, ◌<◌}
use mathlib.Core.Path.{◌≡◌, refl, sym, ◌∙◌}
use mathlib.Core.List.{List}
use mathlib.Core.Logic.{⊎_elim}
use native.Mathlib.Omega.{arith}
use native.Mathlib.Nat.{not-suc-le-zero}
use lib.ListN.{get_or}
use lib.Dec.{eqb}
use lib.IntN.{ℤ, pos, neg_ℤ}
use borrow.Author.Tests.{leb-true, eqb-true, eqb-false}
use Rattle.base.proofs.TestLaws.{by_test, le_int_iff}
use Rattle.sheet.specs.Sheet.{Expense, OptionRecord, sheet_of, factor}
use Rattle.sheet.specs.Parsed.{flow_of, overhauls_of, terms_of, parsed}
use Rattle.sheet.proofs.FactorLaws.{factor_low, factor_high}
use Rattle.sheet.proofs.ParsedLaws.{get_or_options, investment_ageing, removal_ageing}
use Rattle.checking.specs.Refusals.{age_before}
use Rattle.checking.specs.Passes.{AmountPasses, InflationPasses, AgeingPasses, OptionPasses, Passes}
use Rattle.checking.specs.Fit.{GrowFits, FlowFits, OverhaulsFit, TermsFit, Fit}
use Rattle.checking.proofs.RuleLaws.{entry_age, entry_amount}

grow_fits : (r : ℕ) (f : ℤ) → InflationPasses r f → GrowFits (1_000_000 + r) (factor f)
grow_fits r f h =
    record {
      low = leb-true _ _ (sym (factor_low f) ∙ (le_int_iff (neg_ℤ (pos 100_000)) f).1 h.low);
      high = leb-true _ _ (sym (factor_high f r) ∙ (le_int_iff f (pos r)).1 h.high);
    }

flow_fits : (r : ℕ) (e : Expense) → AmountPasses e.amount → InflationPasses r e.inflation → AgeingPasses r e → FlowFits (1_000_000 + r) (flow_of e)
unfolding flow_of
flow_fits r e a f g =
    record {
      amount = a;
      grow = grow_fits r e.inflation f;
      age_low = omega arith;
      age_high = let h = g.ageing in omega arith;
      product = g.product;
    }

-- without ageing, check 8 follows from check 7
once_ages : (r : ℕ) (e : Expense) → e.ageing ≡ 0 → InflationPasses r e.inflation → AgeingPasses r e
once_ages r e z f =
    let h = (grow_fits r e.inflation f).high in
    record { ageing = omega arith; product = rw z (omega arith) }

-- ages rise from entry to entry, so they rise from any entry to any later one
rising : (o : OptionRecord) (n : ℕ) → ((j : ℕ) → j < n → age_before o j < (o.overhaul j).age) → (i j : ℕ) → i < j → j < n → (o.overhaul i).age < (o.overhaul j).age
unfolding age_before
rising o n up i zero h l = absurd (not-suc-le-zero h)
rising o n up i (suc j) h l =
    let last = up (suc j) l in
    by_test (eqb i j)
    (λ t. rw (eqb-true i j t) last)
    (λ t. let d = eqb-false i j t in let before = rising o n up i j (omega arith) (omega arith) in omega arith)

overhauls_fit : (r : ℕ) (o : OptionRecord) → OptionPasses r o → OverhaulsFit (1_000_000 + r) (overhauls_of o)
unfolding overhauls_of
overhauls_fit r o h =
    let v = overhauls_of o in
    let few = h.count in
    let age : (j : ℕ) → j < o.overhaul_count → get_or v.ages j 0 ≡ (o.overhaul j).age = λ j l. entry_age v o refl j (omega arith) in
    record {
      grow = grow_fits r o.overhaul_inflation h.overhaul_inflation;
      count = few;
      age_low = λ j l. rw (age j l) (h.used j l).low;
      age_high = λ j l. let late = (h.used j l).high in rw (age j l) (omega arith);
      rising = λ i j k l.
          rw (age i (omega arith), age j l) (rising o o.overhaul_count (λ n m. (h.used n m).rising) i j k l);
      amount = λ j l. rw (entry_amount v o refl j (omega arith)) (h.used j l).amount;
    }

terms_fit :
    (r : ℕ) (o : OptionRecord) → o.investment.ageing ≡ 0 → o.removal.ageing ≡ 0 → OptionPasses r o
    → TermsFit (1_000_000 + r) (terms_of o)
unfolding terms_of
terms_fit r o z y h =
    record {
      lives = ⊎_elim (λ l. omega arith) (λ l. omega arith) h.lives;
      longest = ⊎_elim (λ l. omega arith) (λ l. omega arith) h.lives;
      offered = ⊎_elim (λ l k. omega arith) (λ l k. omega arith) h.lives;
      investment =
          flow_fits r o.investment h.investment_amount h.investment_inflation
          (once_ages r o.investment z h.investment_inflation);
      maintenance = flow_fits r o.maintenance h.maintenance_amount h.maintenance_inflation h.maintenance_ageing;
      electricity = flow_fits r o.electricity h.electricity_amount h.electricity_inflation h.electricity_ageing;
      overhauls = overhauls_fit r o h;
      removal = flow_fits r o.removal h.removal_amount h.removal_inflation (once_ages r o.removal y h.removal_inflation);
    }

-- an option of a sheet that passes, over document 01's record
pub option_fit : (s : List ℕ) → Passes s → (k : ℕ) → k < 3 → TermsFit (1_000_000 + (sheet_of s).rate) (terms_of ((sheet_of s).option k))
option_fit s h k l = terms_fit (sheet_of s).rate ((sheet_of s).option k) (investment_ageing s k) (removal_ageing s k) (h.options k l)

pub fit : (s : List ℕ) → Passes s → Fit (parsed (sheet_of s))
unfolding parsed
fit s h =
    let low = h.header.rate in
    record {
      horizon_low = h.header.horizon.0;
      horizon_high = h.header.horizon.1;
      discount_low = omega arith;
      discount_high = omega arith;
      options = λ k other l. rw (get_or_options (sheet_of s) k other l) (option_fit s h k l);
    }
