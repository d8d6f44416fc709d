-- The words that are lent are the totals of the entries (`word_held`). The totals and ends of renovating, written upward: those of one year more (`written_next`), or of none
-- where maintaining may not end (`written_past`), as past its longest life or the horizon (`may_end_lem`). Totals leave room (`fits_none`,
-- `fits_next`). Both together, from no year to all (`renovated_none`, `renovated_past`, `renovated_next`, `renovated_all`). Assumes nothing.
use Prim.Native.Nat.{ℕ, ◌+◌, ◌-◌, ◌*◌, ◌≤◌, ◌<◌, min}
use mathlib.Core.Path.{◌≡◌, refl, ap, subst, ◌∙◌}
use mathlib.Core.Bool.{true}
use mathlib.Core.List.{List}
use mathlib.Core.Logic.{inl, inr, ⊎_elim}
use native.Mathlib.Omega.{arith}
use lib.ListN.{length, get_or, set}
use Rattle.base.specs.Lists.{first_of}
use Rattle.base.proofs.StoreLaws.{read_after, written_more}
use Rattle.sheet.specs.Layout.{year_places}
use Rattle.sheet.specs.Sheet.{PlanningSheet, maintain, renovate}
use Rattle.sheet.specs.Parsed.{terms_of, parsed, no_terms}
use Rattle.sheet.specs.declared.Sheet.{Sheet}
use Rattle.sheet.specs.declared.Terms.{Terms}
use Rattle.sheet.proofs.ParsedLaws.{horizon_read, terms_read}
use Rattle.checking.specs.Fit.{Fit, SheetFits}
use Rattle.steps.specs.Fit.{largest_payment}
use Rattle.costing.specs.Arc.{kept_of}
use Rattle.costing.specs.Offered.{offered}
use Rattle.costing.specs.Fit.{yearly}
use Rattle.costing.specs.declared.Kept.{Kept}
use Rattle.costing.proofs.OfferedLaws.{offered-iff}
use Rattle.choice.specs.Running.{no_total}
use Rattle.weighing.specs.Best.{in_short}
use Rattle.weighing.specs.Ends.{word_of, WordsFit}
use Rattle.weighing.specs.declared.Best.{Best}
use Rattle.tails.specs.Tail.{tail_from}
use Rattle.front.specs.Planned.{renovated}
use Rattle.front.specs.Front.{TailsLent, AheadLent, best_kept, NoTotals, TotalsHeld, EndsHeld, EndsFrom, RenovatedAt, Written}
use Rattle.front.proofs.PlannedLaws.{renovated-le}
use Rattle.front.proofs.KeptLaws.{renovated_best}

-- the word of a year is the total of its entry
pub word_held :
    (s : Sheet) (words : List ℕ) → TailsLent s words → (y : ℕ) → y ≤ s.horizon
    → (p : PlanningSheet) → s ≡ parsed p → word_of words y ≡ (tail_from p y).total
word_held s words held y early p read = held.held p read y (omega (arith, horizon_read s p read))

-- a year below i + 1, and not i, is below i
before_next : (shortest i e : ℕ) → (e < i + 1) × EndsFrom shortest e → (e ≡ i → ⊥) → (e < i) × EndsFrom shortest e
before_next shortest i e k other = (omega arith, k.1)

module _ (p : PlanningSheet) (shortest : ℕ) where
  pub written_next :
      (totals ends : List ℕ) (i : ℕ) (best : Best) → Written p shortest i totals ends → i < length totals → i < length ends
      → best ≡ in_short (renovated p i) → Written p shortest (i + 1) (set totals i best.total) (set ends i best.end)
  written_next totals ends i best h inside within read e l m =
      let early = before_next shortest i in (
        written_more (λ y. y) (λ y. (renovated p y).total) _ _ totals i inside (ap (λ (b : Best). b.total) read) (λ e d. d) early (λ e k. (h e k.0 k.1).0) e (l, m),
        written_more (λ y. y) (λ y. first_of (renovated p y).ends) _ _ ends i within (ap (λ (b : Best). b.end) read) (λ e d. d) early (λ e k. (h e k.0 k.1).1) e (l, m),
      )

  -- in a year that is left out maintaining may not end
  pub written_past :
      (totals ends : List ℕ) (i : ℕ) → Written p shortest i totals ends → 0 < i → i < shortest → Written p shortest (i + 1) totals ends
  written_past totals ends i h some early e l m = h e (⊎_elim (λ z. omega arith) (λ late. omega arith) m) m

-- the years in which maintaining may end: none is past its longest life or the horizon
pub may_end_lem :
    (p : PlanningSheet) (s : Sheet) → s ≡ parsed p → (top i : ℕ)
    → let terms = get_or s.options maintain no_terms in
    top ≡ min terms.longest s.horizon → top < i
    → (e : ℕ) → offered p maintain 0 e ≡ true → (e < i) × EndsFrom terms.shortest e
unfolding terms_of
may_end_lem p s read top i last past e on =
    let o = (offered-iff p maintain 0 e).0 on in
    let terms = terms_read s p read maintain no_terms (omega arith) in
    let shortest = ap (λ (t : Terms). t.shortest) terms in
    let longest = ap (λ (t : Terms). t.longest) terms in
    let T = horizon_read s p read in
    ⊎_elim (λ l. (omega (arith, o.inside, l.2), inr (omega (arith, l.1)))) (λ z. (omega (arith, z.0), inl (omega (arith, z.0)))) o.lasting

pub fits_none : (T : ℕ) (totals : List ℕ) → T ≤ 300 → NoTotals totals → WordsFit T 0 totals
fits_none T totals short none e late inside some = absurd (some (none e (omega arith)))

pub fits_next :
    (p : PlanningSheet) → Fit (parsed p) → (T : ℕ) (totals : List ℕ) (i total : ℕ) → T ≡ p.horizon → i < length totals
    → total ≡ (renovated p i).total → WordsFit T 0 totals → WordsFit T 0 (set totals i total)
fits_next p fit T totals i total same inside read fits e late within =
    read_after (λ (v : ℕ). (v ≡ no_total → ⊥) → v ≤ (T - e) * yearly + largest_payment) totals i total e inside
    (λ (q : e ≡ i) some. let most = renovated-le p fit i (λ z. some (read ∙ z)) in rw (read, same, q) (omega arith)) (λ other. fits e late within)

-- the years below i in which maintaining may end are written, and no total is too large
pub record Renovated (s : Sheet) (shortest i : ℕ) (totals ends : List ℕ) : Type 0 where
  pub written : (p : PlanningSheet) → s ≡ parsed p → Written p shortest i totals ends
  pub fits : WordsFit s.horizon 0 totals

module _ (s : Sheet) (some : SheetFits s) where
  pub renovated_none : (shortest : ℕ) (totals ends : List ℕ) → NoTotals totals → Renovated s shortest 0 totals ends
  renovated_none shortest totals ends none =
      record {
        written = λ p read e early may. absurd (omega arith);
        fits = fits_none s.horizon totals some.fit.horizon_high none;
      }

  module _ {shortest i : ℕ} {totals ends : List ℕ} (below : Renovated s shortest i totals ends) where
    pub renovated_past : 0 < i → i < shortest → Renovated s shortest (i + 1) totals ends
    renovated_past late early =
        record { written = λ p read. written_past p shortest totals ends i (below.written p read) late early; fits = below.fits }

    -- with the choice from year i, by the lent words and the totals behind its ends
    pub renovated_next :
        (words ahead : List ℕ) → TailsLent s words → AheadLent s ahead → i ≤ s.horizon → i < length totals → i < length ends
        → {a : Kept} {best : Best} → a ≡ kept_of s renovate i → best ≡ best_kept a s.horizon (word_of words i) (word_of ahead)
        → Renovated s shortest (i + 1) (set totals i best.total) (set ends i best.end)
    renovated_next words ahead lent behind early inside within {a} {best} kept by_words =
        let p = some.sheet in
        let chosen : (p : PlanningSheet) → s ≡ parsed p → best ≡ in_short (renovated p i) =
        λ p read. renovated_best p (subst Fit read some.fit) s read words ahead lent behind i early kept by_words in
        record {
          written = λ p read. written_next p shortest totals ends i best (below.written p read) inside within (chosen p read);
          fits =
              fits_next p (subst Fit some.read some.fit) s.horizon totals i best.total (horizon_read s p some.read) inside
              (ap (λ (best : Best). best.total) (chosen p some.read)) below.fits;
        }

  -- once all are written
  pub renovated_all :
      {i : ℕ} {totals ends : List ℕ}
      → let terms = get_or s.options maintain no_terms in
      Renovated s terms.shortest i totals ends → min terms.longest s.horizon < i → year_places ≤ length totals → year_places ≤ length ends
      → TotalsHeld s totals × WordsFit s.horizon 0 totals × EndsHeld s ends
  renovated_all all past long wide =
      let may : (p : PlanningSheet) → s ≡ parsed p → (e : ℕ) → offered p maintain 0 e ≡ true → RenovatedAt p _ _ e =
      λ p read e on. let end = may_end_lem p s read _ _ refl past e on in all.written p read e end.0 end.1 in (
        record { room = long; held = λ p read e on. (may p read e on).0 },
        all.fits,
        record { room = wide; held = λ p read e on. (may p read e on).1 },
      )
