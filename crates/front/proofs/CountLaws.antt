-- The arcs of renovating, counted from each year in which maintaining may end. The years that the code goes through are such years (`ends_may`). Those
-- of no year (`counted_none`), of one more (`counted_next`), of all (`counted_all`); at most 121 a year (`counted_few`). Assumes nothing.
use Prim.Native.Nat.{ℕ, suc, ◌+◌, ◌-◌, ◌*◌, ◌≤◌, ◌<◌, min, max}
use mathlib.Core.Path.{◌≡◌, refl, ap, sym, subst, ◌∙◌}
use mathlib.Core.Bool.{Bool, true, cond}
use mathlib.Core.Logic.{inl, inr, ⊎_elim}
use native.Mathlib.Nat.{zero-add}
use native.Mathlib.Omega.{arith}
use lib.Dec.{leb}
use lib.ListN.{get_or}
use borrow.Author.Tests.{leb-true, leb-false}
use Rattle.base.specs.Tally.{sum_over}
use Rattle.base.proofs.TestLaws.{by_test}
use Rattle.base.proofs.TallyLaws.{sum-zero, sum_next, sum_past, sum_until, sum-le}
use Rattle.sheet.specs.Sheet.{PlanningSheet, maintain, renovate}
use Rattle.sheet.specs.Parsed.{terms_of, parsed, no_terms}
use Rattle.sheet.specs.declared.Sheet.{Sheet}
use Rattle.sheet.specs.declared.Terms.{Terms}
use Rattle.sheet.proofs.ParsedLaws.{horizon_read, terms_read}
use Rattle.checking.specs.Fit.{Fit, SheetFits}
use Rattle.costing.specs.Offered.{offered}
use Rattle.costing.proofs.OfferedLaws.{offered-iff}
use Rattle.chain.specs.Counting.{arcs_from, renovate_arcs_from, renovate_arcs}
use Rattle.chain.proofs.CountingLaws.{arcs-from-le}
use Rattle.front.specs.Front.{EndsFrom, EndsCounted}
use Rattle.front.proofs.RenovationLaws.{may_end_lem}

-- of a sheet that passes, where the code has its terms of maintaining
module _ (p : PlanningSheet) (s : Sheet) (read : s ≡ parsed p) (fit : Fit s) where
  abbrev terms : Terms
  terms = get_or s.options maintain no_terms

  pub ends_may : (top i : ℕ) → top ≡ min terms.longest s.horizon → i ≤ top → EndsFrom terms.shortest i → offered p maintain 0 i ≡ true
  unfolding terms_of
  ends_may top i last inside from =
      let same = terms_read s p read maintain no_terms (omega arith) in
      let shortest = ap (λ (t : Terms). t.shortest) same in
      let longest = ap (λ (t : Terms). t.longest) same in
      let T = horizon_read s p read in
      let some = (fit.options maintain no_terms (omega arith)).offered in
      (offered-iff p maintain 0 i).1
      (record {
        known = omega arith;
        inside = omega (arith, T);
        forward = omega arith;
        maintain = λ _. refl;
        lasting =
            by_test (leb 1 i)
            (λ t. let late = leb-true 1 i t in
            inl (omega arith, ⊎_elim (λ z. absurd (omega arith)) (λ l. omega (arith, l, shortest)) from, omega (arith, longest)))
            (λ t. let early = leb-false 1 i t in inr (omega arith, omega arith));
      })

-- from a year in which maintaining may not end, none of renovating is counted, and else at most 121
none_from : (p : PlanningSheet) (e : ℕ) → (offered p maintain 0 e ≡ true → ⊥) → renovate_arcs_from p e ≡ 0
none_from p e never = by_test (offered p maintain 0 e) (λ on. absurd (never on)) (λ off. rw off)

few_from : (p : PlanningSheet) → Fit (parsed p) → (e : ℕ) → renovate_arcs_from p e ≤ 121
few_from p fit e = by_test (offered p maintain 0 e) (λ on. rw on (arcs-from-le p fit renovate e)) (λ off. rw off (omega arith))

-- how many arcs of renovating are weighed for the years below i
module _ (s : Sheet) where
  pub counted_none : EndsCounted s 0 0
  counted_none p read = sym (sum-zero (renovate_arcs_from p) 0)

  module _ (top i : ℕ) (last : top ≡ min (get_or s.options maintain no_terms).longest s.horizon) where
    -- year i is one in which maintaining may end, and the years between it and the next are not
    pub counted_next :
        (next : ℕ) {arcs before more : ℕ}
        → let shortest = (get_or s.options maintain no_terms).shortest in
        Fit s → i ≤ top → EndsFrom shortest i → next ≡ max (i + 1) shortest → EndsCounted s i before
        → ((p : PlanningSheet) → s ≡ parsed p → more ≡ arcs_from p renovate i) → arcs ≡ before + more → EndsCounted s next arcs
    counted_next next fit inside from same before here sum p read =
        let f = renovate_arcs_from p in
        let all : i + 1 + (next - (i + 1)) ≡ next = omega arith in
        let one = here p read ∙ ap (λ (flag : Bool). cond flag (arcs_from p renovate i) 0) (sym (ends_may p s read fit top i last inside from)) in
        sum
        ∙ (λ k. before p read k + one k)
        ∙ ap (λ (e : ℕ). sum_over f 0 i + f e) (sym (zero-add i))
        ∙ sym (sum_next f 0 i)
        ∙ sym
        (sum_past f 0 (i + 1) (next - (i + 1))
        (λ e l m.
        none_from p e (λ on.
        ⊎_elim (λ z. omega arith) (λ old. omega arith) (may_end_lem p s read top (top + 1) last (omega arith) e on).1)))
        ∙ ap (sum_over f 0) all

    pub counted_all : top < i → {arcs : ℕ} → EndsCounted s i arcs → (p : PlanningSheet) → s ≡ parsed p → arcs ≡ renovate_arcs p
    unfolding renovate_arcs
    counted_all past counted p read =
        let T = horizon_read s p read in
        counted p read
        ∙ sum_until (renovate_arcs_from p) 0 i (suc p.horizon)
        (λ e l. none_from p e (λ on. omega (arith, T, (may_end_lem p s read top (top + 1) last (omega arith) e on).0)))

  pub counted_few : SheetFits s → (i : ℕ) {arcs : ℕ} → EndsCounted s i arcs → arcs ≤ i * 121
  counted_few some i counted =
      let p = some.sheet in
      omega (
        arith,
        counted p some.read,
        sum-le (renovate_arcs_from p) 0 121 i (λ e l m. few_from p (subst Fit some.read some.fit) e),
      )
