-- An arc of a sheet: since when its motors are in service (`since_kept`, `since_new`, `since_le`), what the code holds of it (`replace-from`,
-- `kept_made`, `kept_named`, `kept_read`, `cost_whole`), which steps its flows take (`electricity_kept`, `electricity_new`, `maintenance_new`), and what a
-- sheet that passes the checks gives of it: room for its steps (`kept_of_fits`, `kept_fits`), what the laws of the error ask (`arc_fits`), and how
-- large its cost can be (`kept_of-room`, `cost-le`). And an arc of a sheet of version 1 pays what it paid before there were removals, by any figure of
-- its payments (`version_one`), in units too (`version_one_costs`). Assumes nothing.
use Prim.Native.Nat.{ℕ, ◌+◌, ◌-◌, ◌*◌, ◌≤◌, min}
use mathlib.Core.Path.{◌≡◌, refl, ap, sym, subst, ◌∙◌}
use mathlib.Core.Bool.{Bool, true, false}
use mathlib.Core.List.{List}
use native.Mathlib.Nat.{add-zero}
use native.Mathlib.Omega.{arith}
use Rattle.base.proofs.TestLaws.{by_test}
use Rattle.base.proofs.ListsLaws.{sum_of-append}
use Rattle.base.specs.Lists.{sum_of}
use Rattle.sheet.specs.Layout.{is_long}
use Rattle.sheet.specs.Sheet.{PlanningSheet, replace, sheet_of}
use Rattle.sheet.specs.Parsed.{flow_of, terms_of, parsed, no_terms}
use Rattle.sheet.specs.declared.Sheet.{Sheet}
use Rattle.sheet.specs.declared.Terms.{Terms}
use Rattle.sheet.proofs.ParsedLaws.{horizon_read, discount_read, terms_read, removal_none}
use Rattle.checking.specs.Fit.{Fit}
use Rattle.steps.specs.Payment.{Payment, rounded, once}
use Rattle.steps.proofs.RoomLaws.{once_free}
use Rattle.costing.specs.Arc.{keeps_motors, pays_removal, since_of, kept_on, kept_of, kept_from, Arc, arc_of, in_year, maintenance, electricity, paid, payments, worth, whole_worth, cost}
use Rattle.costing.specs.Fit.{yearly, KeptFits, ArcFits}
use Rattle.costing.specs.declared.Kept.{Kept}
use Rattle.costing.proofs.SizeLaws.{whole_le}
use Rattle.costing.proofs.SumLaws.{closing_free}

-- the year since which motors are in service, by whether they are kept; it is not after the start
pub since_kept : (option start : ℕ) → keeps_motors option ≡ true → since_of option start ≡ 0
unfolding since_of
since_kept option start e = rw e refl

pub since_new : (option start : ℕ) → keeps_motors option ≡ false → since_of option start ≡ start
unfolding since_of
since_new option start e = rw e refl

since_le : (option start : ℕ) → since_of option start ≤ start
since_le option start =
    by_test (keeps_motors option) (λ t. rw (since_kept option start t) (omega arith)) (λ t. rw (since_new option start t) (omega arith))

-- a replacement kept from another year is the replacement from there
pub replace-from : (s : Sheet) (y z : ℕ) → kept_from (kept_of s replace y) z ≡ kept_of s replace z
unfolding since_of
replace-from s y z = refl

pub kept_of_fits :
    (s : Sheet) → Fit s → (option start : ℕ) → option ≤ 2 → start ≤ s.horizon → KeptFits (kept_of s option start)
kept_of_fits s fit option start known early =
    record {
      low = fit.discount_low;
      high = fit.discount_high;
      terms = fit.options option no_terms (omega arith);
      from = omega arith;
      since = since_le option start;
    }

-- its cost is at most 12 payments a year
pub kept_of-room :
    (s : Sheet) → Fit s → (option start end : ℕ) → option ≤ 2 → start ≤ end → end ≤ s.horizon
    → (removed : Bool) {k : Kept} {units : ℕ} → k ≡ kept_of s option start → units ≡ whole_worth k removed (end - start) s.horizon
    → units ≤ (end - start) * yearly
kept_of-room s fit option start end known forward inside removed same e =
    rw (e, same)
    (whole_le (kept_of s option start) (kept_of_fits s fit option start known (omega arith)) removed (end - start) s.horizon (omega arith))

module _ (p : PlanningSheet) (option start end : ℕ) where
  pub kept_made :
      {terms : Terms} {discount since : ℕ} → terms ≡ terms_of (p.option option) → discount ≡ 1_000_000 + p.rate → since ≡ since_of option start
      → kept_on terms discount since start ≡ (arc_of p option start end).kept
  unfolding arc_of
  kept_made t d s = λ i. kept_on (t i) (d i) (s i) start

  -- of the option whose record was read, if it is known
  pub kept_named :
      {k discount since : ℕ} {terms : Terms} → k ≡ min option 2 → option ≤ 2 → terms ≡ terms_of (p.option k) → discount ≡ 1_000_000 + p.rate
      → since ≡ since_of k start → kept_on terms discount since start ≡ (arc_of p option start end).kept
  kept_named {k} named known t d s =
      let same : k ≡ option = omega arith in
      kept_made (t ∙ ap (λ (i : ℕ). terms_of (p.option i)) same) d (s ∙ ap (λ (i : ℕ). since_of i start) same)

  pub kept_read : (s : Sheet) → s ≡ parsed p → option ≤ 2 → kept_of s option start ≡ (arc_of p option start end).kept
  kept_read s read known = kept_made (terms_read s p read option no_terms (omega arith)) (discount_read s p read) refl

  -- Request 4: in year k electricity takes start + k steps in service and no plain ones where the motors are kept; else, and maintenance always,
  -- as many plain steps as the start, and then k in service.
  module _ (k : ℕ) where
    abbrev Takes : Payment → (plainly served : ℕ) → Type 0
    Takes q plainly served = (q.plainly ≡ plainly) × (q.served ≡ served)

    pub electricity_kept : keeps_motors option ≡ true → Takes (electricity (arc_of p option start end).kept k) 0 (start + k)
    unfolding electricity in_year arc_of
    electricity_kept e = let since = since_kept option start e in (since, omega arith)

    pub electricity_new : keeps_motors option ≡ false → Takes (electricity (arc_of p option start end).kept k) start k
    unfolding electricity in_year arc_of
    electricity_new e = let since = since_new option start e in (since, omega arith)

    pub maintenance_new : Takes (maintenance (arc_of p option start end).kept k) start k
    unfolding maintenance in_year arc_of
    maintenance_new = (refl, omega arith)

  -- the cost of the arc, of the option that is kept
  pub cost_whole :
      {k : Kept} {removed : Bool} {horizon : ℕ} → k ≡ (arc_of p option start end).kept → removed ≡ pays_removal option → horizon ≡ p.horizon
      → whole_worth k removed (end - start) horizon ≡ cost (arc_of p option start end)
  unfolding cost payments arc_of
  cost_whole e r T =
      (λ i. whole_worth (e i) (r i) (end - start) (T i))
      ∙ sym (sum_of-append (rounded (1_000_000 + p.rate)) (paid (arc_of p option start end).kept (end - start)) _)

  -- of a sheet that passes the checks
  module _ (fit : Fit (parsed p)) where
    pub kept_fits : option ≤ 2 → start ≤ p.horizon → KeptFits (arc_of p option start end).kept
    kept_fits known early =
        subst KeptFits (kept_read (parsed p) refl known)
        (kept_of_fits (parsed p) fit option start known (omega (arith, horizon_read (parsed p) p refl)))

    pub arc_fits : option ≤ 2 → start ≤ end → end ≤ p.horizon → ArcFits (arc_of p option start end)
    unfolding arc_of
    arc_fits known forward inside = record { kept = kept_fits known (omega arith); inside = omega arith }

    pub cost-le : option ≤ 2 → start ≤ end → end ≤ p.horizon → cost (arc_of p option start end) ≤ (end - start) * yearly
    cost-le known forward inside =
        kept_of-room (parsed p) fit option start end known forward (omega (arith, horizon_read (parsed p) p refl)) (pays_removal option) refl
        (sym (cost_whole (kept_read (parsed p) refl known) refl (horizon_read (parsed p) p refl)))

-- of a sheet of version 1, which is read with removal 0
module _ (s : List ℕ) (short : is_long s ≡ false) (option start end : ℕ) where
  abbrev a : Arc
  a = arc_of (sheet_of s) option start end

  pub version_one :
      (φ : Payment → ℕ) → ((grow u : ℕ) → φ (once 0 grow u) ≡ 0) → sum_of φ (payments a) ≡ sum_of φ (paid a.kept a.years)
  unfolding payments arc_of terms_of flow_of
  version_one φ nothing =
      let none = closing_free φ nothing a.kept (removal_none s option short) a.removed a.years a.horizon in
      sum_of-append φ (paid a.kept a.years) _ ∙ ap (λ (more : ℕ). sum_of φ (paid a.kept a.years) + more) none ∙ add-zero _

  pub version_one_costs : cost a ≡ worth a.kept (paid a.kept a.years)
  unfolding cost arc_of
  version_one_costs = version_one (rounded a.kept.discount) (once_free a.kept.discount (omega arith))
