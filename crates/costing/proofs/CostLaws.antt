-- What `costed` answers: the ways in which `cost` ends, when it accepts (`costed-iff`), how near the arc's payments and its cost then are to
-- the exact values (`payments_near`, `costed_near`), which are whole (`offered_whole`), and the range of the answer (`costed_number_le`, `costed_packs`). Assumes nothing.
use Prim.Native.Nat.{ℕ, ◌+◌, ◌≤◌, ◌<◌}
use mathlib.Core.Path.{◌≡◌}
use mathlib.Core.List.{List}
use mathlib.Core.Bool.{Bool, true, false}
use mathlib.Core.Logic.{◌↔◌}
use native.Mathlib.Omega.{arith}
use Rattle.std.specs.Prelude.{Result, IsOk, IfOk}
use Rattle.base.specs.Lists.{Every}
use Rattle.base.specs.Answer.{accepted, refused, total_bound, Packs}
use Rattle.base.specs.declared.Answer.{Answer}
use Rattle.base.specs.declared.Refusal.{Refusal}
use Rattle.base.specs.Outcome.{answer_of}
use Rattle.base.proofs.OutcomeLaws.{accepts, near_total}
use Rattle.base.proofs.CallLaws.{call-refused, call_stopped, call_passed, call-iff, call-accepted, call_number_le, call_packs}
use Rattle.sheet.specs.Sheet.{sheet_of}
use Rattle.checking.specs.Refusals.{checked}
use Rattle.checking.specs.Passes.{Passes}
use Rattle.checking.proofs.PassesLaws.{checked-iff}
use Rattle.checking.proofs.RangeLaws.{checked_number_le, checked_packs}
use Rattle.checking.proofs.FitLaws.{fit}
use Rattle.steps.specs.Exact.{Whole}
use Rattle.steps.specs.Error.{PaymentNear}
use Rattle.costing.specs.Arc.{arc_of, payments, cost}
use Rattle.costing.specs.Offered.{offered, Offered}
use Rattle.costing.specs.Costing.{costing, costed}
use Rattle.costing.specs.Error.{WithinAllowance}
use Rattle.costing.specs.Fit.{ArcFits}
use Rattle.costing.proofs.ErrorOfArc.{payments_error, payments_whole, arc_error}
use Rattle.costing.proofs.SheetArcLaws.{arc_fits, cost-le}
use Rattle.costing.proofs.OfferedLaws.{offered-iff}

module _ (s : List ℕ) (option start end : ℕ) where
  -- costing is a call with one rule of its own, 13: the arc is offered
  abbrev rule : Bool
  rule = offered (sheet_of s) option start end

  abbrev units : ℕ
  units = cost (arc_of (sheet_of s) option start end)

  -- the ways out: refused by the check, not offered, offered
  pub cost-refused : (a : Answer) → a ≡ checked s → (a.number ≡ 0 → ⊥) → a ≡ costed s option start end
  unfolding costed costing
  cost-refused = call-refused (checked s) rule 13 units

  pub cost_unoffered : (checked s).number ≡ 0 → offered (sheet_of s) option start end ≡ false → refused 13 3 ≡ costed s option start end
  unfolding costed costing
  cost_unoffered = call_stopped (checked s) rule 13 units

  pub cost-offered :
      (checked s).number ≡ 0 → offered (sheet_of s) option start end ≡ true
      → accepted (cost (arc_of (sheet_of s) option start end)) ≡ costed s option start end
  unfolding costed costing
  cost-offered = call_passed (checked s) rule 13 units

  -- accepted exactly when the sheet passes its checks and offers the arc
  pub costed-iff : ((costed s option start end).number ≡ 0) ↔ (Passes s × Offered (sheet_of s) option start end)
  unfolding costed costing
  costed-iff = call-iff (checked s) rule 13 units (omega arith) (checked-iff s) (offered-iff (sheet_of s) option start end)

  -- an arc that a sheet offers, if the sheet passes its checks
  arc_of_lem : Passes s → Offered (sheet_of s) option start end → ArcFits (arc_of (sheet_of s) option start end)
  arc_of_lem h o = arc_fits (sheet_of s) option start end (fit s h) o.known o.forward o.inside

  -- each payment of such an arc after p plain steps and s in service is off by at most p + 2s roundings
  pub payments_near :
      Passes s → Offered (sheet_of s) option start end
      → Every (PaymentNear (1_000_000 + (sheet_of s).rate)) (payments (arc_of (sheet_of s) option start end))
  unfolding arc_of
  payments_near h o = payments_error (arc_of (sheet_of s) option start end) (arc_of_lem h o)

  -- and its exact value is whole
  pub offered_whole :
      Passes s → Offered (sheet_of s) option start end
      → Every (Whole (sheet_of s).horizon (1_000_000 + (sheet_of s).rate)) (payments (arc_of (sheet_of s) option start end))
  unfolding arc_of
  offered_whole h o = payments_whole (arc_of (sheet_of s) option start end) (arc_of_lem h o)

  -- an accepted call answers 0, 3 and the arc's cost
  pub costed-accepted :
      (costed s option start end).number ≡ 0 → costed s option start end ≡ accepted (cost (arc_of (sheet_of s) option start end))
  unfolding costed costing
  costed-accepted = call-accepted (checked s) rule 13 units (omega arith)

  -- which lies within the allowance of its years
  costed_near :
      (costed s option start end).number ≡ 0 → WithinAllowance (arc_of (sheet_of s) option start end) (costed s option start end).total
  costed_near e =
      let h = costed-iff.0 e in
      rw (costed-accepted e) (arc_error (arc_of (sheet_of s) option start end) (arc_of_lem h.0 h.1))

  -- what was answered, when it is an acceptance, and how near the cost then is
  pub cost_answers :
      (a : Answer) → a ≡ costed s option start end
      → (a ≡ costed s option start end)
      × (((a.number ≡ 0) ↔ (Passes s × Offered (sheet_of s) option start end))
      × (a.number ≡ 0 → WithinAllowance (arc_of (sheet_of s) option start end) a.total))
  cost_answers a e = (e, (rw e costed-iff, rw e costed_near))

  -- the same of an outcome that answers so
  pub cost_outcome :
      (r : Result ℕ Refusal) → answer_of r ≡ costed s option start end
      → (answer_of r ≡ costed s option start end)
      × ((IsOk r ↔ (Passes s × Offered (sheet_of s) option start end))
      × IfOk r (WithinAllowance (arc_of (sheet_of s) option start end)))
  cost_outcome r e =
      let held = cost_answers (answer_of r) e in
      (e, (accepts r held.1.0, near_total r (WithinAllowance (arc_of (sheet_of s) option start end)) held.1.1))

  pub costed_number_le : (costed s option start end).number ≤ 13
  unfolding costed costing
  costed_number_le = call_number_le (checked s) rule 13 units 13 (omega (arith, checked_number_le s)) (omega arith)

  cost-lt : Passes s → Offered (sheet_of s) option start end → cost (arc_of (sheet_of s) option start end) < total_bound
  cost-lt h o =
      let horizon = h.header.horizon.1 in
      omega (arith, cost-le (sheet_of s) option start end (fit s h) o.known o.forward o.inside)

  pub costed_packs : Packs (costed s option start end)
  unfolding costed costing
  costed_packs =
      call_packs (checked s) rule 13 units (checked_packs s) (omega arith)
      (λ z e. cost-lt ((checked-iff s).0 z) ((offered-iff (sheet_of s) option start end).0 e))
