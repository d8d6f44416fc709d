-- A record is refused as the first of 5 to 9, its overhaul entries left out, row by row. Assumes nothing.
use Prim.Native.Nat.{ℕ}
use mathlib.Core.Path.{◌≡◌, sym, ap, ◌∙◌}
use mathlib.Core.Bool.{true, false}
use native.Mathlib.Omega.{arith}
use borrow.Author.Tests.{le-leb, lt-leb}
use Rattle.base.specs.Answer.{answered}
use Rattle.sheet.specs.Sheet.{OptionRecord}
use Rattle.sheet.specs.Parsed.{flow_of, overhauls_of, terms_of}
use Rattle.sheet.specs.declared.Terms.{Terms}
use Rattle.checking.specs.Refusals.{lives_ok, amounts_ok, fields_number}
use Rattle.checking.proofs.RowLaws.{row_5, row_6, row_7, row_8, row_9, fields_passed}
use Rattle.checking.proofs.option.fields.Goals as goal

-- the rules on terms are those of the record
module _ (t : Terms) (o : OptionRecord) (parsed : t ≡ terms_of o) where
  lives : lives_ok o.shortest o.longest ≡ lives_ok t.shortest t.longest
  unfolding terms_of
  lives = sym (ap (λ (v : Terms). lives_ok v.shortest v.longest) parsed)

  amounts :
      amounts_ok o.investment.amount o.maintenance.amount o.electricity.amount o.removal.amount
      ≡ amounts_ok t.investment.amount t.maintenance.amount t.electricity.amount t.removal.amount
  unfolding terms_of flow_of
  amounts = sym (ap (λ (v : Terms). amounts_ok v.investment.amount v.maintenance.amount v.electricity.amount v.removal.amount) parsed)

  count : t.overhauls.count ≡ o.overhaul_count
  unfolding terms_of overhauls_of
  count = ap (λ (v : Terms). v.overhauls.count) parsed

at_option : (r n k : ℕ) (o : OptionRecord) → fields_number r o ≡ n → answered n k ≡ answered (fields_number r o) k
at_option r n k o h = ap (λ (m : ℕ). answered m k) (sym h)

pub returns-then-not-lives_ok : goal.returns-then-not-lives_ok
returns-then-not-lives_ok c =
    λ r o d t. at_option r 5 _ o (row_5 r o (lives _ o t ∙ sym c.lives_ok.ensures ∙ c.if-not-lives_ok.true))

pub returns-then-not-amounts_ok : goal.returns-then-not-amounts_ok
returns-then-not-amounts_ok c =
    λ r o d t.
    at_option r 6 _ o (row_6 r o (lives _ o t ∙ sym c.lives_ok.ensures ∙ c.if-not-lives_ok.false)
    (amounts _ o t ∙ sym c.amounts_ok.ensures ∙ c.if-not-amounts_ok.true))

pub returns-then-not-inflations_ok : goal.returns-then-not-inflations_ok
returns-then-not-inflations_ok c =
    λ r o d t.
    at_option r 7 _ o (row_7 r o (lives _ o t ∙ sym c.lives_ok.ensures ∙ c.if-not-lives_ok.false)
    (amounts _ o t ∙ sym c.amounts_ok.ensures ∙ c.if-not-amounts_ok.false)
    (sym (c.inflations_ok.ensures r o d t) ∙ c.if-not-inflations_ok.true))

pub returns-then-not-ageings_ok : goal.returns-then-not-ageings_ok
returns-then-not-ageings_ok c =
    λ r o d t.
    at_option r 8 _ o (row_8 r o (lives _ o t ∙ sym c.lives_ok.ensures ∙ c.if-not-lives_ok.false)
    (amounts _ o t ∙ sym c.amounts_ok.ensures ∙ c.if-not-amounts_ok.false)
    (sym (c.inflations_ok.ensures r o d t) ∙ c.if-not-inflations_ok.false)
    (sym (c.ageings_ok.ensures r o d t) ∙ c.if-not-ageings_ok.true))

pub returns-then-t-gt8 : goal.returns-then-t-gt8
returns-then-t-gt8 c =
    λ r o d t.
    let n = count _ o t in
    at_option r 9 _ o (row_9 r o (lives _ o t ∙ sym c.lives_ok.ensures ∙ c.if-not-lives_ok.false)
    (amounts _ o t ∙ sym c.amounts_ok.ensures ∙ c.if-not-amounts_ok.false)
    (sym (c.inflations_ok.ensures r o d t) ∙ c.if-not-inflations_ok.false)
    (sym (c.ageings_ok.ensures r o d t) ∙ c.if-not-ageings_ok.false)
    (lt-leb o.overhaul_count 8 (omega (arith, c.if-t-gt8.true))))

pub returns : goal.returns
returns c =
    λ r o d t.
    let n = count _ o t in
    at_option r 0 _ o (fields_passed r o (lives _ o t ∙ sym c.lives_ok.ensures ∙ c.if-not-lives_ok.false)
    (amounts _ o t ∙ sym c.amounts_ok.ensures ∙ c.if-not-amounts_ok.false)
    (sym (c.inflations_ok.ensures r o d t) ∙ c.if-not-inflations_ok.false)
    (sym (c.ageings_ok.ensures r o d t) ∙ c.if-not-ageings_ok.false)
    (le-leb o.overhaul_count 8 (omega (arith, c.if-t-gt8.false))))
