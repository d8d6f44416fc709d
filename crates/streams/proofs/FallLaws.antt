-- Which overhaul falls in year n of an arc, and what it costs: ages rise, so that at most one does (`overhauls_one`, `overhauls_none`), and
-- the index of the next one is kept (`falls_zero`, `falls_one`, `falls_none`). Assumes nothing.
use Prim.Native.Nat.{ℕ, zero, suc, ◌+◌, ◌<◌}
use mathlib.Core.Path.{◌≡◌, sym, ap, ◌∙◌}
use mathlib.Core.List.{List}
use mathlib.Core.Logic.{⊎_elim}
use native.Mathlib.Omega.{arith}
use native.Mathlib.Nat.{eq-or-lt_of_le, not-suc-le-zero}
use lib.Dec.{ltb}
use lib.ListN.{get_or}
use borrow.Author.Tests.{eq-eqb, ne_eqb, ltb-true, ltb-false}
use Rattle.base.specs.Lists.{sum_of}
use Rattle.base.proofs.TestLaws.{by_test}
use Rattle.steps.specs.Payment.{Payment, rounded, once}
use Rattle.costing.specs.Arc.{age_of, overhaul, for_each, worth}
use Rattle.costing.specs.Fit.{KeptFits}
use Rattle.costing.specs.Walk.{overhauls_at}
use Rattle.costing.specs.declared.Kept.{Kept}
use Rattle.costing.proofs.SumLaws.{for_each-suc, for_each_none, paid_if-true, paid_if-false}
use Rattle.streams.specs.Streams.{Falls}

-- the sum over a list of parts, of which one counts
for_each_one :
    (φ : Payment → ℕ) (n i : ℕ) (f : ℕ → List Payment) → i < n → ((j : ℕ) → j < n → (j ≡ i → ⊥) → sum_of φ (f j) ≡ 0)
    → sum_of φ (for_each n f) ≡ sum_of φ (f i)
for_each_one φ zero i f l others = absurd (not-suc-le-zero l)
for_each_one φ (suc n) i f l others =
    ⊎_elim
    (λ (q : i ≡ n).
    rw (for_each-suc φ n f, for_each_none φ n f (λ j m. others j (omega arith) (λ e. omega arith)), q) (omega arith))
    (λ (m : i < n).
    rw (for_each-suc φ n f, for_each_one φ n i f m (λ j k. others j (omega arith)), others n (omega arith) (λ e. omega arith)) (omega arith))
    (eq-or-lt_of_le (omega arith))

module _ (a : Kept) (h : KeptFits a) (n : ℕ) where
  overhauls_none : ((j : ℕ) → j < a.terms.overhauls.count → age_of a j ≡ n → ⊥) → 0 ≡ worth a (overhauls_at a n)
  unfolding overhauls_at
  overhauls_none never =
      sym
      (for_each_none (rounded a.discount) a.terms.overhauls.count _
      (λ j l. rw (ne_eqb (age_of a j) n (never j l)) (paid_if-false (rounded a.discount) (overhaul a j))))

  other_age : (i j : ℕ) → i < a.terms.overhauls.count → j < a.terms.overhauls.count → (j ≡ i → ⊥) → age_of a i ≡ n → age_of a j ≡ n → ⊥
  unfolding age_of
  other_age i j l m differ p q =
      let rising = h.terms.overhauls.rising in
      by_test (ltb i j)
      (λ t. omega (arith, rising i j (ltb-true i j t) m))
      (λ t.
      ⊎_elim (λ (e : j ≡ i). differ e) (λ k. omega (arith, rising j i k l)) (eq-or-lt_of_le (ltb-false i j t)))

  overhauls_one :
      (i : ℕ) → i < a.terms.overhauls.count → age_of a i ≡ n → {v : ℕ}
      → v ≡ rounded a.discount (once (get_or a.terms.overhauls.amounts i 0) a.terms.overhauls.grow (a.from + n))
      → v ≡ worth a (overhauls_at a n)
  unfolding overhauls_at overhaul
  overhauls_one i l e v =
      v
      ∙ sym
      (for_each_one (rounded a.discount) a.terms.overhauls.count i _ l
      (λ j m differ.
      rw (ne_eqb (age_of a j) n (other_age i j l m differ e)) (paid_if-false (rounded a.discount) (overhaul a j)))
      ∙ rw (eq-eqb (age_of a i) n e, paid_if-true (rounded a.discount), e))

pub falls_zero : (a : Kept) → Falls a 0 0
falls_zero a = record { within = omega arith; behind = λ j l. absurd (not-suc-le-zero l); ahead = λ j l m. omega arith }

module _ (a : Kept) (h : KeptFits a) (n next : ℕ) (falls : Falls a n next) where
  -- no overhaul falls where the next one does not
  falls_never : (next < a.terms.overhauls.count → age_of a next ≡ n → ⊥) → (j : ℕ) → j < a.terms.overhauls.count → age_of a j ≡ n → ⊥
  unfolding age_of
  falls_never waits j l e =
      by_test (ltb j next) (λ t. omega (arith, falls.behind j (ltb-true j next t)))
      (λ t.
      ⊎_elim (λ (q : next ≡ j). waits (omega arith) (ap (λ (k : ℕ). get_or a.terms.overhauls.ages k 0) q ∙ e))
      (λ k. omega (arith, h.terms.overhauls.rising next j k l, falls.ahead next (omega arith) (omega arith)))
      (eq-or-lt_of_le (ltb-false j next t)))

  pub falls_none :
      (next < a.terms.overhauls.count → age_of a next ≡ n → ⊥) → (0 ≡ worth a (overhauls_at a n)) × Falls a (n + 1) next
  falls_none waits =
      let never = falls_never waits in (
        overhauls_none a h n never,
        record {
          within = falls.within;
          behind = λ j l. omega (arith, falls.behind j l);
          ahead = λ j l m.
              ⊎_elim (λ (e : n ≡ age_of a j). absurd (never j m (sym e))) (λ k. omega arith) (eq-or-lt_of_le (falls.ahead j l m));
        },
      )

  pub falls_one :
      next < a.terms.overhauls.count → age_of a next ≡ n → {v : ℕ}
      → v ≡ rounded a.discount (once (get_or a.terms.overhauls.amounts next 0) a.terms.overhauls.grow (a.from + n))
      → (v ≡ worth a (overhauls_at a n)) × Falls a (n + 1) (next + 1)
  unfolding age_of
  falls_one l e value = (
    overhauls_one a h n next l e value,
    record {
      within = omega arith;
      behind = λ j m.
          ⊎_elim (λ (q : j ≡ next). omega (arith, ap (λ (k : ℕ). get_or a.terms.overhauls.ages k 0) q))
          (λ k. omega (arith, falls.behind j k)) (eq-or-lt_of_le (omega arith));
      ahead = λ j k m. omega (arith, h.terms.overhauls.rising next j (omega arith) m);
    },
  )
