-- The ends of the chosen replacements, one after the other: when year y is reached, what is written and the ends from y on are those from j
-- on (`Reached`). It is so at j (`reached_first`), with one end more (`reached_next`), and at T all are written (`reached_last`).
-- The end that is held for a year is the next: a later one (`reached_later`), and reached (`reached_on`). Assumes nothing.
use Prim.Native.Nat.{ℕ, ◌+◌, ◌≤◌, ◌<◌}
use mathlib.Core.Path.{◌≡◌, refl, ap, sym, ◌∙◌}
use mathlib.Core.List.{List, [], ◌++◌, append-nil}
use native.Mathlib.Numerals.{add-one}
use native.Mathlib.Omega.{arith}
use lib.ListN.{length, get_or, set, take}
use lib.Seq.{length-take-le, append_snoc, take-suc-set}
use Rattle.sheet.specs.Sheet.{PlanningSheet}
use Rattle.sheet.specs.Parsed.{parsed}
use Rattle.sheet.specs.declared.Sheet.{Sheet}
use Rattle.sheet.proofs.ParsedLaws.{horizon_read}
use Rattle.checking.specs.Fit.{SheetFits}
use Rattle.choice.specs.Running.{Entry, no_total}
use Rattle.tails.specs.Tail.{tail_from}
use Rattle.tails.proofs.TailLaws.{tail_last}
use Rattle.front.specs.Front.{FirstsHeld, Follows}
use Rattle.front.proofs.TakenLaws.{Next, tail_next}

pub record Reached (p : PlanningSheet) (j y count : ℕ) (ends : List ℕ) : Type 0 where
  pub there : (tail_from p y).total ≡ no_total → ⊥
  pub goes : take count ends ++ (tail_from p y).ends ≡ (tail_from p j).ends

module _ (p : PlanningSheet) (j : ℕ) where
  pub reached_first : (ends : List ℕ) → ((tail_from p j).total ≡ no_total → ⊥) → Reached p j j 0 ends
  reached_first ends there = record { there = there; goes = refl }

  pub reached_next :
      (y e w count : ℕ) (ends : List ℕ) → Reached p j y count ends → count < length ends → Next p y e → w ≡ e
      → Reached p j e (count + 1) (set ends count w)
  reached_next y e w count ends h room next written =
      record {
        there = next.there;
        goes =
            rw (written, add-one count, take-suc-set ends count e room, append_snoc (take count ends) e (tail_from p e).ends, ← next.rest) h.goes;
      }

  pub reached_last : (y count : ℕ) (ends : List ℕ) → Reached p j y count ends → y ≡ p.horizon → count ≤ length ends → Follows p j count ends
  reached_last y count ends h arrived room =
      let last : (tail_from p y).ends ≡ [] = ap (λ (y : ℕ). (tail_from p y).ends) arrived ∙ ap (λ (t : Entry). t.ends) (tail_last p) in
      let all = sym (append-nil (take count ends)) ∙ ap (λ (l : List ℕ). take count ends ++ l) (sym last) ∙ h.goes in
      (sym (length-take-le count ends room) ∙ ap length all, all)

-- the ends of the first replacements, as they are held for the years before T from which replacements lead there
module _ (s : Sheet) (firsts : List ℕ) (firsts_held : FirstsHeld s firsts) {j y count : ℕ} {ends : List ℕ} (early : y < s.horizon) where
  next_held : (p : PlanningSheet) → s ≡ parsed p → Reached p j y count ends → Next p y (get_or firsts y 0)
  next_held p read h =
      let T = horizon_read s p read in
      tail_next p y (get_or firsts y 0) (omega arith) h.there (firsts_held.held p read y (omega arith))

  -- the next end is later, and within the horizon
  pub reached_later :
      SheetFits s → ((p : PlanningSheet) → s ≡ parsed p → Reached p j y count ends) → (y < get_or firsts y 0) × (get_or firsts y 0 ≤ s.horizon)
  reached_later some h =
      let n = next_held some.sheet some.read (h some.sheet some.read) in
      let T = horizon_read s some.sheet some.read in
      (n.later, omega (arith, n.inside))

  pub reached_on :
      (p : PlanningSheet) → s ≡ parsed p → Reached p j y count ends → count < length ends
      → Reached p j (get_or firsts y 0) (count + 1) (set ends count (get_or firsts y 0))
  reached_on p read h room = reached_next p j y (get_or firsts y 0) _ count ends h room (next_held p read h) refl
