-- The choice of the end of maintaining or renovating on the terms of the option is the one that the rules give (`kept_best`): by the lent words
-- and the totals behind its ends it is that of renovating (`renovated_best`), by the totals of renovating that of maintaining (`planned_best`). As many
-- arcs are weighed for it as the sheet offers (`renovated_counted`, `planned_counted`). What the choice of an end asks holds with what is lent
-- (`lent_asks`, `ahead_fit`). Assumes nothing.
use Prim.Native.Nat.{ℕ, suc, ◌+◌, ◌-◌, ◌≤◌, ◌<◌}
use mathlib.Core.Path.{◌≡◌, refl, ap, sym, ◌∙◌}
use mathlib.Core.Bool.{Bool, true, cond}
use mathlib.Core.List.{List}
use mathlib.Core.Logic.{◌⊎◌, inl, inr, ⊎_elim}
use native.Mathlib.Nat.{add-zero, le_refl}
use native.Mathlib.Numerals.{add-one}
use native.Mathlib.Omega.{arith}
use lib.ListN.{length}
use Rattle.sheet.specs.Layout.{year_places}
use Rattle.sheet.specs.Sheet.{PlanningSheet, maintain, renovate}
use Rattle.sheet.specs.Parsed.{parsed}
use Rattle.sheet.specs.declared.Sheet.{Sheet}
use Rattle.sheet.proofs.ParsedLaws.{horizon_read}
use Rattle.checking.specs.Fit.{Fit, SheetFits}
use Rattle.division.specs.declared.Divisor.{Divisor}
use Rattle.steps.specs.Fit.{Divides}
use Rattle.costing.specs.Arc.{kept_of, cost_to}
use Rattle.costing.specs.Offered.{placed, offered}
use Rattle.costing.specs.declared.Kept.{Kept}
use Rattle.costing.proofs.SheetArcLaws.{kept_of_fits, kept_read, cost-le}
use Rattle.costing.proofs.OfferedLaws.{placed-iff, offered-iff}
use Rattle.choice.specs.Running.{Entry, no_entry, entries, weigh, over_ends}
use Rattle.choice.proofs.RunningLaws.{over_zero, over_offered, over_first}
use Rattle.chain.specs.Counting.{arcs_from, maintain_arcs}
use Rattle.streams.specs.Streams.{Lent}
use Rattle.weighing.specs.Best.{in_short, numbers}
use Rattle.weighing.specs.Ends.{kept_cost, best_to, word_of, WordsFit, WordsBehind, Walks}
use Rattle.weighing.specs.Ahead.{Ahead, adds_at}
use Rattle.weighing.specs.declared.Best.{Best}
use Rattle.weighing.proofs.AheadLaws.{ahead_zero}
use Rattle.weighing.proofs.BestLaws.{weigh-in_short}
use Rattle.weighing.proofs.SheetEndLaws.{lent_walks, cost_removed, cost_kept, ends_over}
use Rattle.tails.specs.Tail.{best_end, tail_from}
use Rattle.tails.proofs.AheadLaws.{ahead_sums, words_fit}
use Rattle.tails.proofs.CountLaws.{arcs_weighed}
use Rattle.front.specs.Planned.{renovated, planned}
use Rattle.front.specs.Front.{TailsLent, AheadLent, best_kept, kept_arcs, TotalsHeld}

-- an option from year y: maintain from 0, or renovate
module _ (p : PlanningSheet) (fit : Fit (parsed p)) (option y : ℕ) (may : option ≤ 1) (from : (1 ≤ option) ⊎ (y ≡ 0))
    (early : y ≤ p.horizon) where
  well : (e : ℕ) → y < e → e ≤ p.horizon → placed p.horizon option y e ≡ true
  well e late inside = (placed-iff p.horizon option y e).1 (((omega arith, inside), omega arith), from)

  -- length 0 is offered, and costs nothing
  at_once : offered p option y y ≡ true
  at_once =
      (offered-iff p option y y).1
      (record {
        known = omega arith;
        inside = early;
        forward = le_refl y;
        maintain = λ first. ⊎_elim (λ l. absurd (omega arith)) (λ z. z) from;
        lasting = inr (omega arith, may);
      })

  costs_nothing : cost_to p option y y ≡ 0
  costs_nothing = omega (arith, cost-le p option y y fit (omega arith) (le_refl y) early)

  -- so length 0 is counted, and of the longer ones as many as are offered
  kept_counted :
      (s : Sheet) → s ≡ parsed p → {a : Kept} {arcs : ℕ} → a ≡ kept_of s option y → arcs ≡ kept_arcs a s.horizon → arcs ≡ arcs_from p option y
  kept_counted s read kept counted =
      let once = ap (λ (flag : Bool). cond {A = ℕ} flag 1 0) at_once in
      omega (arith, counted, once, arcs_weighed p s read option y (omega arith) well kept)

  module _ (behind : ℕ → Entry) where
    over_at_once :
        over_ends entries (offered p option y) (cost_to p option y) behind y no_entry 1 ≡ weigh entries no_entry 0 y (behind y)
    over_at_once =
        let none = add-zero y in
        over_offered entries (offered p option y) (cost_to p option y) behind y no_entry 0 (rw none at_once)
        ∙ rw (none, over_zero entries, costs_nothing) refl

    -- by the total of the entry behind length 0, and by those behind the ends that are offered, with what ending there adds
    module _ (s : Sheet) (read : s ≡ parsed p) (word : ℕ) (ahead more : ℕ → ℕ) (same : word ≡ (behind y).total)
        (costs : (e : ℕ) → y < e → kept_cost (kept_of s option y) e + more e ≡ cost_to p option y e)
        (held : (e : ℕ) → offered p option y e ≡ true → Ahead (ahead e) (more e) (behind e)) where
      kept_over : best_kept (kept_of s option y) p.horizon word ahead ≡ in_short (best_end p option behind y)
      unfolding best_end
      kept_over =
          let a = kept_of s option y in
          let n = p.horizon - y in
          let first = weigh entries no_entry 0 y (behind y) in
          let start : weigh numbers (in_short no_entry) 0 y word ≡ in_short first =
          ap (weigh numbers (in_short no_entry) 0 y) same ∙ weigh-in_short no_entry 0 y (behind y) in
          ap (best_to a p.horizon ahead) start
          ∙ ends_over p option y a (λ e. kept_read p option y e s read (omega arith)) ahead more behind first well costs (λ e l m on. held e on)
          ∙ ap in_short
          (ap (λ (z : ℕ). over_ends entries (offered p option y) (cost_to p option y) behind z first n) (add-one y)
          ∙ ap (λ (best : Entry). over_ends entries (offered p option y) (cost_to p option y) behind (suc y) best n) (sym over_at_once)
          ∙ sym (over_first entries (offered p option y) (cost_to p option y) behind y no_entry n))

      pub kept_best :
          {a : Kept} {best : Best} → a ≡ kept_of s option y → best ≡ best_kept a s.horizon word ahead → best ≡ in_short (best_end p option behind y)
      kept_best kept best =
          best
          ∙ ap (λ (a : Kept). best_kept a s.horizon word ahead) kept
          ∙ ap (λ (T : ℕ). best_kept (kept_of s option y) T word ahead) (horizon_read s p read)
          ∙ kept_over

module _ (p : PlanningSheet) (fit : Fit (parsed p)) (s : Sheet) (read : s ≡ parsed p) where
  -- renovating from year i, by the lent words and the totals behind its ends
  pub renovated_best :
      (words ahead : List ℕ) → TailsLent s words → AheadLent s ahead → (i : ℕ) → i ≤ s.horizon → {a : Kept} {best : Best}
      → a ≡ kept_of s renovate i → best ≡ best_kept a s.horizon (word_of words i) (word_of ahead) → best ≡ in_short (renovated p i)
  unfolding renovated
  renovated_best words ahead lent behind i early =
      let T = horizon_read s p read in
      kept_best p fit renovate i (omega arith) (inl (omega arith)) (omega (arith, T)) (tail_from p) s read (word_of words i) (word_of ahead)
      (adds_at p renovate) (lent.held p read i (omega (arith, T)))
      (λ e late. cost_removed p renovate i (kept_of s renovate i) (λ e. kept_read p renovate i e s read (omega arith)) e refl late)
      (λ e on.
      let inside = ((offered-iff p renovate i e).0 on).inside in
      (behind.held p read e inside, ahead_sums p fit renovate (omega arith) e inside))

  pub renovated_counted :
      (i : ℕ) → i ≤ s.horizon → {a : Kept} {arcs : ℕ} → a ≡ kept_of s renovate i → arcs ≡ kept_arcs a s.horizon → arcs ≡ arcs_from p renovate i
  renovated_counted i early =
      kept_counted p fit renovate i (omega arith) (inl (omega arith)) (omega (arith, horizon_read s p read)) s read

  -- maintaining, by the totals of renovating, to which ending it adds nothing
  pub planned_best :
      (totals : List ℕ) → TotalsHeld s totals → {a : Kept} {best : Best}
      → a ≡ kept_of s maintain 0 → best ≡ best_kept a s.horizon (word_of totals 0) (word_of totals) → best ≡ in_short (planned p)
  unfolding planned
  planned_best totals h =
      kept_best p fit maintain 0 (omega arith) (inr refl) (omega arith) (renovated p) s read (word_of totals 0) (word_of totals) (λ e. 0)
      (h.held p read 0 (at_once p fit maintain 0 (omega arith) (inr refl) (omega arith)))
      (λ e late. cost_kept p maintain 0 (kept_of s maintain 0) (λ e. kept_read p maintain 0 e s read (omega arith)) e refl)
      (λ e on. (h.held p read e on ∙ sym (ahead_zero (renovated p e).total), λ some q. some (sym (add-zero (renovated p e).total) ∙ q)))

  pub planned_counted : {a : Kept} {arcs : ℕ} → a ≡ kept_of s maintain 0 → arcs ≡ kept_arcs a s.horizon → arcs ≡ maintain_arcs p
  planned_counted = kept_counted p fit maintain 0 (omega arith) (inr refl) (omega arith) s read

-- what is asked of an option that is kept from a year within the horizon, with what is lent for it and by words that leave room
pub lent_asks :
    (s : Sheet) → Fit s → (d : Divisor) → Divides d s.discount
    → (option y : ℕ) (streams ages words : List ℕ) → option ≤ 2 → y ≤ s.horizon → Lent s option streams ages
    → year_places ≤ length words → WordsFit s.horizon y words → {a : Kept} → a ≡ kept_of s option y
    → Walks a d s.horizon streams ages × WordsBehind a s.horizon words
lent_asks s fit d divides option y streams ages words known early lent room fits same =
    rw same (
      lent_walks s d option y streams ages (kept_of_fits s fit option y known early) divides early lent,
      record { early = early; far = fit.horizon_high; room = omega (arith, fit.horizon_high); fits = fits },
    )

-- the totals behind the ends of renovating leave room
pub ahead_fit : (s : Sheet) → SheetFits s → (y : ℕ) (ahead : List ℕ) → AheadLent s ahead → WordsFit s.horizon y ahead
ahead_fit s good y ahead lent = words_fit s good renovate (omega arith) y ahead (λ p read e late inside. lent.held p read e inside)
