-- Laws of `offered`: the tests and the facts agree (`placed-iff`, `offered-iff`); of an arc that is well placed the length decides
-- (`offered_in`); and the test as the code reads it (`offered_read`), of an option by its number or else of replace (`named_known`). Assumes
-- nothing.
use Prim.Native.Nat.{ℕ, ◌-◌, ◌<◌, ◌≤◌, min}
use mathlib.Core.Path.{◌≡◌}
use mathlib.Core.Bool.{true, false, ◌&&◌}
use mathlib.Core.Logic.{◌↔◌, ◌⊎◌, inl, inr, ⊎_elim}
use native.Mathlib.Omega.{arith}
use lib.Dec.{leb}
use borrow.Author.Tests.{leb-true, leb-false}
use Rattle.std.specs.Result.{result_unwrap_or}
use Rattle.std.specs.Prelude.{Result, Ok, Err}
use Rattle.base.specs.declared.Activity.{Activity}
use Rattle.base.specs.declared.Activity.TheVariants.{Replace}
use Rattle.base.specs.declared.Refusal.{Refusal}
use Rattle.base.specs.Outcome.{place, Names}
use Rattle.base.proofs.OutcomeLaws.{place_lt}
use Rattle.base.proofs.TestLaws.{by_test, leb-iff, eqb-iff, both_iff, either_iff}
use Rattle.sheet.specs.Sheet.{PlanningSheet}
use Rattle.sheet.specs.Parsed.{terms_of}
use Rattle.sheet.specs.declared.Terms.{Terms}
use Rattle.costing.specs.Offered.{placed, length_offered, offered, Offered}

pub placed-iff :
    (horizon option start end : ℕ)
    → (placed horizon option start end ≡ true) ↔ ((((option ≤ 2) × (end ≤ horizon)) × (start ≤ end)) × ((1 ≤ option) ⊎ (start ≡ 0)))
placed-iff horizon option start end =
    both_iff (both_iff (both_iff (leb-iff option 2) (leb-iff end horizon)) (leb-iff start end))
    (either_iff (leb-iff 1 option) (eqb-iff start 0))

length-iff :
    (shortest longest option n : ℕ)
    → (length_offered shortest longest option n ≡ true) ↔ ((((1 ≤ n) × (shortest ≤ n)) × (n ≤ longest)) ⊎ ((n ≡ 0) × (option ≤ 1)))
length-iff shortest longest option n =
    either_iff (both_iff (both_iff (leb-iff 1 n) (leb-iff shortest n)) (leb-iff n longest))
    (both_iff (eqb-iff n 0) (leb-iff option 1))

-- the place of the activity whose record is read
pub named_known :
    (option : ℕ) (named : Result Activity Refusal) {activity : Activity} → Names option named → activity ≡ result_unwrap_or named Replace
    → place activity ≡ min option 2
named_known option (Ok a) names read = let l = place_lt a in rw read (omega (arith, names))
named_known option (Err x) names read = rw read (omega (arith, names.1))

module _ (p : PlanningSheet) (option start end : ℕ) where
  -- of an arc that is well placed the length decides
  pub offered_in :
      placed p.horizon option start end ≡ true
      → offered p option start end ≡ length_offered (p.option option).shortest (p.option option).longest option (end - start)
  unfolding offered
  offered_in e = rw e

  -- an option above 2 is not placed, whatever terms are read for it
  offered_known :
      (k : ℕ) → k ≡ min option 2
      → placed p.horizon option start end && length_offered (p.option k).shortest (p.option k).longest option (end - start)
      ≡ offered p option start end
  unfolding offered
  offered_known k e =
      by_test (leb option 2)
      (λ t. let l = leb-true option 2 t in let same : k ≡ option = omega arith in rw same)
      (λ t. rw t)

  -- as the code reads them
  pub offered_read :
      (k : ℕ) {T : ℕ} {t : Terms} → k ≡ min option 2 → T ≡ p.horizon → t ≡ terms_of (p.option k)
      → placed T option start end && length_offered t.shortest t.longest option (end - start) ≡ offered p option start end
  unfolding terms_of
  offered_read k e horizon terms = rw (horizon, terms) (offered_known k e)

  from_zero : (option ≡ 0 → start ≡ 0) → (1 ≤ option) ⊎ (start ≡ 0)
  from_zero h =
      by_test (leb 1 option)
      (λ t. inl (leb-true 1 option t))
      (λ t. let z = leb-false 1 option t in inr (h (omega arith)))

  pub offered-iff : (offered p option start end ≡ true) ↔ Offered p option start end
  unfolding offered
  offered-iff =
      let o = p.option option in
      let both = both_iff (placed-iff p.horizon option start end) (length-iff o.shortest o.longest option (end - start)) in (
        λ e.
            let h = both.0 e in
            let order = h.0.0 in
            record {
              known = omega arith;
              inside = omega arith;
              forward = omega arith;
              maintain = λ z. ⊎_elim (λ l. absurd (omega arith)) (λ y. y) h.0.1;
              lasting = ⊎_elim (λ l. inl (l.0.0, l.0.1, l.1)) (λ l. inr l) h.1;
            },
        λ h.
            both.1
            ((((h.known, h.inside), h.forward), from_zero h.maintain), ⊎_elim (λ l. inl ((l.0, l.1), l.2)) (λ l. inr l) h.lasting),
      )
