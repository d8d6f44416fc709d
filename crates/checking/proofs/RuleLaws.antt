-- Refusals 7 to 9 as the code tests them, on factors and entry by entry, are those of document 01; and what the lists of eight hold.
-- Assumes nothing.
use Prim.Native.Nat.{ℕ, suc, ◌+◌, ◌*◌, ◌≤◌, ◌<◌}
use mathlib.Core.Path.{◌≡◌, refl, ap, ◌∙◌}
use mathlib.Core.Bool.{Bool, true, false, ◌&&◌, ◌||◌, and-false, false≢true}
use native.Mathlib.Omega.{arith}
use native.Mathlib.Nat.{mul-le-mul}
use native.Mathlib.Numerals.{add-one}
use lib.ListN.{get_or}
use lib.Dec.{leb, ltb, eqb}
use lib.IntN.{ℤ}
use borrow.Author.Tests.{ltb-true, lt-ltb, le-ltb, le-leb, lt-leb}
use Rattle.base.proofs.ListsLaws.{get_or-listed}
use Rattle.sheet.specs.Sheet.{Expense, OptionRecord, factor}
use Rattle.sheet.specs.Parsed.{flow_of, overhauls_of}
use Rattle.sheet.specs.declared.Flow.{Flow}
use Rattle.sheet.specs.declared.Overhauls.{Overhauls}
use Rattle.sheet.proofs.FactorLaws.{factor_low, factor_high}
use Rattle.checking.specs.Refusals.{inflation_ok, ageing_ok, entry_ok, age_before, overhaul_ok}

-- 7
pub inflation_tested :
    (discount grow r : ℕ) (f : ℤ) → discount ≡ 1_000_000 + r → grow ≡ factor f →
    (leb 900_000 grow && leb grow discount) ≡ inflation_ok r f
unfolding inflation_ok
inflation_tested discount grow r f d g = cc (factor_low f, factor_high f r)

-- 8: the product of factors that were tested fits
pub product_fits : (x y : ℕ) → x ≤ 1_200_000 → y ≤ 1_300_000 → x * y ≤ 1_560_000_000_000
product_fits x y h k = mul-le-mul {n₂ = 1_200_000} {m₂ = 1_300_000} h k

module _ (discount r : ℕ) (same : discount ≡ 1_000_000 + r) (w : Flow) (e : Expense) (parsed : w ≡ flow_of e) where
  age_of_lem : w.age ≡ 1_000_000 + e.ageing
  unfolding flow_of
  age_of_lem = ap (λ (v : Flow). v.age) parsed

  grow_of : w.grow ≡ factor e.inflation
  unfolding flow_of
  grow_of = ap (λ (v : Flow). v.grow) parsed

  pub ageing_old : 1_300_000 < w.age → false ≡ ageing_ok r e
  unfolding ageing_ok
  ageing_old h = let a = age_of_lem in rw (lt-leb e.ageing 300_000 (omega arith))

  -- 10^6 (10^6 + r) < (10^6 + f) 10^6 ≤ (10^6 + f)(10^6 + g)
  pub ageing_grown : discount < w.grow → false ≡ ageing_ok r e
  unfolding ageing_ok
  ageing_grown h =
      let a = age_of_lem in
      let g = grow_of in
      let p : suc (1_000_000 + r) * 1_000_000 ≤ factor e.inflation * (1_000_000 + e.ageing) = mul-le-mul (omega arith) (omega arith) in
      rw (lt-leb (factor e.inflation * (1_000_000 + e.ageing)) (1_000_000 * (1_000_000 + r)) (omega arith), and-false)

  pub ageing_tested : w.age ≤ 1_300_000 → leb (w.grow * w.age) (1_000_000 * discount) ≡ ageing_ok r e
  unfolding ageing_ok
  ageing_tested h =
      let a = age_of_lem in
      rw (le-leb e.ageing 300_000 (omega arith)) (cc (age_of_lem, grow_of))

-- 9: the age before the first entry, and before the next one
pub age_before_zero : (o : OptionRecord) → 0 ≡ age_before o 0
unfolding age_before
age_before_zero o = refl

pub age_before_suc : (o : OptionRecord) (j age : ℕ) → age ≡ (o.overhaul j).age → age ≡ age_before o (j + 1)
unfolding age_before
age_before_suc o j age e = rw (add-one, e)

-- 9: an age above the one before is at least 1, so that a used entry needs no test of that
used_same : (rising low high amount : Bool) → (rising ≡ true → low ≡ true) → (rising && high && amount) ≡ ((low && high && rising && amount) || false)
used_same true true true true h = refl
used_same true true true false h = refl
used_same true true false amount h = refl
used_same true false high amount h = absurd (false≢true (h refl))
used_same false true true amount h = refl
used_same false true false amount h = refl
used_same false false high amount h = refl

module _ (count j before age amount : ℕ) where
  pub entry_used : j < count → (ltb before age && leb age 119 && leb amount 1_000_000_000) ≡ entry_ok count j before age amount
  entry_used h =
      rw (lt-ltb j count h, lt-leb count j h)
      (used_same _ _ _ _ (λ e. le-leb 1 age (omega (arith, ltb-true before age e))))

  pub entry_unused : count ≤ j → (eqb age 0 && eqb amount 0) ≡ entry_ok count j before age amount
  entry_unused h = rw (le-ltb j count h, le-leb count j h)

-- 9: an entry of a record, tested
pub entry_tested :
    (o : OptionRecord) (j : ℕ) {test : Bool} {count before age amount : ℕ} → test ≡ entry_ok count j before age amount →
    count ≡ o.overhaul_count → before ≡ age_before o j → age ≡ (o.overhaul j).age → amount ≡ (o.overhaul j).amount → test ≡ overhaul_ok o j
unfolding overhaul_ok
entry_tested o j e count before age amount = e ∙ (λ i. entry_ok (count i) j (before i) (age i) (amount i))

-- 9: an entry of the lists of eight
module _ (v : Overhauls) (o : OptionRecord) (parsed : v ≡ overhauls_of o) (j : ℕ) (inside : j < 8) where
  pub entry_age : get_or v.ages j 0 ≡ (o.overhaul j).age
  unfolding overhauls_of
  entry_age = rw parsed (get_or-listed 8 (λ i. (o.overhaul i).age) j 0 inside)

  pub entry_amount : get_or v.amounts j 0 ≡ (o.overhaul j).amount
  unfolding overhauls_of
  entry_amount = rw parsed (get_or-listed 8 (λ i. (o.overhaul i).amount) j 0 inside)
