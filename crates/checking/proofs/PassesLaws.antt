-- `checked` answers 0 exactly for the sheets that pass the checks (`checked-iff`); before it, the same for the header, for an
-- option's fields and for its overhauls. Assumes nothing.
use Prim.Native.Nat.{ℕ, ◌+◌, ◌*◌, ◌≤◌, ◌<◌}
use mathlib.Core.Path.{◌≡◌, refl}
use mathlib.Core.List.{List}
use mathlib.Core.Bool.{true}
use mathlib.Core.Logic.Iff
use mathlib.Core.Logic.{◌↔◌, ◌⊎◌, inl, inr, ⊎_elim}
use native.Mathlib.Omega.{arith}
use lib.Dec.{lit<, ltb}
use lib.ListN.{length, get_or}
use lib.IntN.{ℤ, pos, neg_ℤ}
use borrow.Author.Tests.{ltb-true, ltb-false}
use Rattle.base.specs.Answer.{◌unless◌else◌}
use Rattle.base.proofs.TestLaws.{by_test, leb-iff, ltb_iff, eqb-iff, le_int_iff, both_iff, either_iff}
use Rattle.base.proofs.AnswerLaws.{unless_iff, answered-iff, or_else_iff}
use Rattle.sheet.specs.Layout.{length_ok, Sized}
use Rattle.sheet.specs.Sheet.{Expense, OptionRecord, PlanningSheet, sheet_of, factor}
use Rattle.sheet.proofs.LayoutLaws.{sized}
use Rattle.checking.specs.Refusals.{inflation_ok, inflations_ok, ageing_ok, ageings_ok, age_before, overhaul_ok, header_number, fields_number, overhaul_answer, first_below, option_answer, checked}
use Rattle.checking.specs.Passes.{InflationPasses, AgeingPasses, UsedPasses, UnusedPasses, OptionPasses, HeaderPasses, Passes}
use Rattle.checking.proofs.FirstLaws.{first_iff}

length-iff : (s : List ℕ) → (length_ok (length s) ≡ true) ↔ ((length s ≡ 278) ⊎ (length s ≡ 302))
length-iff s = either_iff (eqb-iff (length s) 278) (eqb-iff (length s) 302)

-- such a sheet can be read
pub header_sized : (s : List ℕ) → HeaderPasses s → Sized s
header_sized s h = sized s ((length-iff s).1 h.long)

pub header-iff : (s : List ℕ) → (header_number s ≡ 0) ↔ HeaderPasses s
unfolding header_number
header-iff s =
    Iff.trans
    (unless_iff 1 (lit< tt) (length-iff s)
    (unless_iff 2 (lit< tt)
    (both_iff
    (both_iff (both_iff (eqb-iff (get_or s 0 0) 82) (eqb-iff (get_or s 1 0) 67)) (eqb-iff (get_or s 2 0) 83))
    (either_iff (both_iff (eqb-iff (length s) 278) (eqb-iff (sheet_of s).version 1))
    (both_iff (eqb-iff (length s) 302) (eqb-iff (sheet_of s).version 2))))
    (unless_iff 3 (lit< tt) (both_iff (leb-iff 1 (sheet_of s).horizon) (leb-iff (sheet_of s).horizon 300))
    (unless_iff 4 (lit< tt) (leb-iff (sheet_of s).rate 200_000)
    Iff.rfl)))) (
      λ p. record {
        long = p.0;
        mark = (p.1.0.0.0.0, p.1.0.0.0.1, p.1.0.0.1);
        version = p.1.0.1;
        horizon = p.1.1.0;
        rate = let r = p.1.1.1.0 in omega arith;
      },
      λ h. (h.long, ((((h.mark.0, h.mark.1), h.mark.2), h.version), (h.horizon, (omega arith, refl)))),
    )

inflation_iff : (r : ℕ) (f : ℤ) → (inflation_ok r f ≡ true) ↔ InflationPasses r f
unfolding inflation_ok
inflation_iff r f =
    Iff.trans (both_iff (le_int_iff (neg_ℤ (pos 100_000)) f) (le_int_iff f (pos r)))
    (λ p. record { low = p.0; high = p.1 }, λ h. (h.low, h.high))

ageing_iff : (r : ℕ) (e : Expense) → (ageing_ok r e ≡ true) ↔ AgeingPasses r e
unfolding ageing_ok
ageing_iff r e =
    Iff.trans
    (both_iff (leb-iff e.ageing 300_000)
    (leb-iff (factor e.inflation * (1_000_000 + e.ageing)) (1_000_000 * (1_000_000 + r))))
    (λ p. record { ageing = p.0; product = p.1 }, λ h. (h.ageing, h.product))

-- an entry passes as a used one below the count, as an unused one from it on
overhaul-iff :
    (o : OptionRecord) (j : ℕ) →
    (overhaul_ok o j ≡ true) ↔ (((j < o.overhaul_count) × UsedPasses o j) ⊎ ((o.overhaul_count ≤ j) × UnusedPasses o j))
unfolding overhaul_ok
overhaul-iff o j =
    let age = (o.overhaul j).age in
    let amount = (o.overhaul j).amount in
    either_iff
    (both_iff (ltb_iff j o.overhaul_count)
    (Iff.trans
    (both_iff (both_iff (both_iff (leb-iff 1 age) (leb-iff age 119)) (ltb_iff (age_before o j) age)) (leb-iff amount 1_000_000_000)) (
      λ p. record { low = p.0.0.0; high = p.0.0.1; rising = p.0.1; amount = p.1 },
      λ h. (((h.low, h.high), h.rising), h.amount),
    )))
    (both_iff (leb-iff o.overhaul_count j)
    (Iff.trans (both_iff (eqb-iff age 0) (eqb-iff amount 0))
    (λ p. record { age = p.0; amount = p.1 }, λ h. (h.age, h.amount))))

entry-iff : (o : OptionRecord) (k j : ℕ) → ((overhaul_answer o k j).number ≡ 0) ↔ (overhaul_ok o j ≡ true)
unfolding overhaul_answer
entry-iff o k j =
    Iff.trans (answered-iff (9 unless overhaul_ok o j else 0) k)
    (Iff.trans (unless_iff 9 (lit< tt) Iff.rfl Iff.rfl) (λ p. p.0, λ e. (e, refl)))

-- all eight entries
overhauls_iff :
    (o : OptionRecord) (k : ℕ) → o.overhaul_count ≤ 8 →
    ((j : ℕ) → j < 8 → (overhaul_answer o k j).number ≡ 0)
    ↔ (((j : ℕ) → j < o.overhaul_count → UsedPasses o j) × ((j : ℕ) → o.overhaul_count ≤ j → j < 8 → UnusedPasses o j))
overhauls_iff o k few = (
  λ zero. (
    λ j h. ⊎_elim (λ p. p.1) (λ p. absurd (omega arith)) ((overhaul-iff o j).0 ((entry-iff o k j).0 (zero j (omega arith)))),
    λ j h l. ⊎_elim (λ p. absurd (omega arith)) (λ p. p.1) ((overhaul-iff o j).0 ((entry-iff o k j).0 (zero j l))),
  ),
  λ h j l.
      (entry-iff o k j).1
      ((overhaul-iff o j).1
      (by_test (ltb j o.overhaul_count)
      (λ t. let b = ltb-true j o.overhaul_count t in inl (b, h.0 j b))
      (λ t. let b = ltb-false j o.overhaul_count t in inr (b, h.1 j b l)))),
)

-- an option's record
option_iff : (p : PlanningSheet) (k : ℕ) → ((option_answer p k).number ≡ 0) ↔ OptionPasses p.rate (p.option k)
unfolding option_answer fields_number inflations_ok ageings_ok
option_iff p k =
    let o = p.option k in
    let r = p.rate in
    let fields =
    Iff.trans (answered-iff (fields_number r o) k)
    (unless_iff 5 (lit< tt)
    (either_iff (both_iff (eqb-iff o.shortest 0) (eqb-iff o.longest 0))
    (both_iff (both_iff (leb-iff 1 o.shortest) (leb-iff o.shortest o.longest)) (leb-iff o.longest 120)))
    (unless_iff 6 (lit< tt)
    (both_iff
    (both_iff (both_iff (leb-iff o.investment.amount 1_000_000_000) (leb-iff o.maintenance.amount 1_000_000_000))
    (leb-iff o.electricity.amount 1_000_000_000))
    (leb-iff o.removal.amount 1_000_000_000))
    (unless_iff 7 (lit< tt)
    (both_iff
    (both_iff
    (both_iff (both_iff (inflation_iff r o.investment.inflation) (inflation_iff r o.maintenance.inflation))
    (inflation_iff r o.electricity.inflation))
    (inflation_iff r o.overhaul_inflation))
    (inflation_iff r o.removal.inflation))
    (unless_iff 8 (lit< tt) (both_iff (ageing_iff r o.maintenance) (ageing_iff r o.electricity))
    (unless_iff 9 (lit< tt) (leb-iff o.overhaul_count 8)
    Iff.rfl))))) in
    Iff.trans (or_else_iff _ (first_below 8 (overhaul_answer o k))) (
      λ h.
          let f = fields.0 h.0 in
          let e = (overhauls_iff o k f.1.1.1.1.0).0 ((first_iff 8 (overhaul_answer o k)).0 h.1) in
          record {
            lives = ⊎_elim (λ l. inl l) (λ l. inr (l.0.0, l.0.1, l.1)) f.0;
            investment_amount = f.1.0.0.0.0;
            maintenance_amount = f.1.0.0.0.1;
            electricity_amount = f.1.0.0.1;
            removal_amount = f.1.0.1;
            investment_inflation = f.1.1.0.0.0.0.0;
            maintenance_inflation = f.1.1.0.0.0.0.1;
            electricity_inflation = f.1.1.0.0.0.1;
            overhaul_inflation = f.1.1.0.0.1;
            removal_inflation = f.1.1.0.1;
            maintenance_ageing = f.1.1.1.0.0;
            electricity_ageing = f.1.1.1.0.1;
            count = f.1.1.1.1.0;
            used = e.0;
            unused = λ j n l. e.1 j n (omega arith);
          },
      λ h. (
        fields.1 (
          ⊎_elim (λ l. inl l) (λ l. inr ((l.0, l.1), l.2)) h.lives,
          (
            (((h.investment_amount, h.maintenance_amount), h.electricity_amount), h.removal_amount),
            (
              ((((h.investment_inflation, h.maintenance_inflation), h.electricity_inflation), h.overhaul_inflation), h.removal_inflation),
              ((h.maintenance_ageing, h.electricity_ageing), (h.count, refl)),
            ),
          ),
        ),
        (first_iff 8 (overhaul_answer o k)).1 ((overhauls_iff o k h.count).1 (h.used, λ j n l. h.unused j n (omega arith))),
      ),
    )

-- a whole sheet
pub checked-iff : (s : List ℕ) → ((checked s).number ≡ 0) ↔ Passes s
unfolding checked
checked-iff s =
    Iff.trans (or_else_iff _ (first_below 3 (option_answer (sheet_of s)))) (
      λ h. record {
        header = (header-iff s).0 ((answered-iff (header_number s) 3).0 h.0);
        options = λ k l. (option_iff (sheet_of s) k).0 ((first_iff 3 (option_answer (sheet_of s))).0 h.1 k l);
      },
      λ h. (
        (answered-iff (header_number s) 3).1 ((header-iff s).1 h.header),
        (first_iff 3 (option_answer (sheet_of s))).1 (λ k l. (option_iff (sheet_of s) k).1 (h.options k l)),
      ),
    )
