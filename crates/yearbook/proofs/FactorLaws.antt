-- Laws of `factor_answer`. In order:
--     rate_refused, year-refused, both_accepted      the three ways in which a call ends
--     factor_promised, factor_answers      what is answered carries the promises
--     factor_number_le, factor_packs      the range of the answer, and that a C form has room for it
-- Assumes nothing.
use Prim.Native.Nat.{ℕ, ◌≤◌, ◌<◌}
use mathlib.Core.Path.{◌≡◌, refl, sym, subst}
use native.Mathlib.Omega.{arith}
use lib.Dec.{leb}
use borrow.Author.Tests.{leb-true, leb-false, le-leb, lt-leb}
use Rattle.base.specs.Answer.{accepted, refused, ◌unless◌else◌, Packs}
use Rattle.base.specs.declared.Answer.{Answer}
use Rattle.base.proofs.TestLaws.{by_test}
use Rattle.base.proofs.AnswerLaws.{accepted_packs, refused_packs}
use Rattle.factors.specs.PresentWorth.{largest_rate, present_worth}
use Rattle.factors.proofs.PresentWorthLaws.{present_worth-le, present_worth_near}
use Rattle.yearbook.specs.Yearbook.{last_year, factor_number, factor_answer}
use Rattle.yearbook.specs.Promises.{PromisedFactor}

module _ (rate year : ℕ) where
  pub rate_refused : largest_rate < rate → factor_answer rate year ≡ refused 4 3
  unfolding factor_answer factor_number ◌unless◌else◌
  rate_refused high = rw (lt-leb rate largest_rate high)

  pub year-refused : rate ≤ largest_rate → last_year < year → factor_answer rate year ≡ refused 13 3
  unfolding factor_answer factor_number ◌unless◌else◌
  year-refused low late = rw (le-leb rate largest_rate low, lt-leb year last_year late)

  pub both_accepted : rate ≤ largest_rate → year ≤ last_year → factor_answer rate year ≡ accepted (present_worth rate year)
  unfolding factor_answer factor_number ◌unless◌else◌
  both_accepted low soon = rw (le-leb rate largest_rate low, le-leb year last_year soon)

  -- what holds of the three holds of what is answered
  factor_all :
      (P : Answer → Type 0)
      → (largest_rate < rate → P (refused 4 3))
      → (rate ≤ largest_rate → last_year < year → P (refused 13 3))
      → (rate ≤ largest_rate → year ≤ last_year → P (accepted (present_worth rate year)))
      → P (factor_answer rate year)
  factor_all P four thirteen none =
      by_test (leb rate largest_rate)
      (λ t.
      let low = leb-true rate largest_rate t in
      by_test (leb year last_year)
      (λ u. let soon = leb-true year last_year u in rw (both_accepted low soon) (none low soon))
      (λ u. let late = leb-false year last_year u in rw (year-refused low late) (thirteen low late)))
      (λ t. let high = leb-false rate largest_rate t in rw (rate_refused high) (four high))

  pub factor_promised : PromisedFactor rate year (factor_answer rate year)
  factor_promised =
      factor_all (PromisedFactor rate year)
      (λ high.
      record {
        accepted = (λ z. absurd (omega arith), λ h. absurd (let l = h.0 in omega arith));
        four = (λ z. high, λ h. refl);
        thirteen = (λ z. absurd (omega arith), λ h. absurd (let l = h.0 in omega arith));
        option = refl;
        total = λ d. refl;
        worth = λ z. absurd (omega arith);
        near = λ z. absurd (omega arith);
      })
      (λ low late.
      record {
        accepted = (λ z. absurd (omega arith), λ h. absurd (let l = h.1 in omega arith));
        four = (λ z. absurd (omega arith), λ h. absurd (omega arith));
        thirteen = (λ z. (low, late), λ h. refl);
        option = refl;
        total = λ d. refl;
        worth = λ z. absurd (omega arith);
        near = λ z. absurd (omega arith);
      })
      (λ low soon.
      record {
        accepted = (λ z. (low, soon), λ h. refl);
        four = (λ z. absurd (omega arith), λ h. absurd (omega arith));
        thirteen = (λ z. absurd (omega arith), λ h. absurd (let l = h.1 in omega arith));
        option = refl;
        total = λ d. absurd (d refl);
        worth = λ z. refl;
        near = λ z. present_worth_near rate year;
      })

  pub factor_answers : (a : Answer) → a ≡ factor_answer rate year → (a ≡ factor_answer rate year) × PromisedFactor rate year a
  factor_answers a e = (e, subst (PromisedFactor rate year) (sym e) factor_promised)

  pub factor_number_le : (factor_answer rate year).number ≤ 13
  factor_number_le = factor_all (λ (a : Answer). a.number ≤ 13) (λ _. omega arith) (λ _ _. omega arith) (λ _ _. omega arith)

  pub factor_packs : Packs (factor_answer rate year)
  factor_packs =
      factor_all Packs
      (λ _. refused_packs 4 (omega arith) 3 (omega arith))
      (λ _ _. refused_packs 13 (omega arith) 3 (omega arith))
      (λ _ _. accepted_packs (present_worth rate year) (omega (arith, present_worth-le rate year)))
