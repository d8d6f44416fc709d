-- `cost` is `costed`: refused by the check, or not offered, or the cost of the arc. Assumes nothing.
use Prim.Native.Nat.{ℕ}
use mathlib.Core.Path.{◌≡◌, refl, sym, ap, subst, ◌∙◌}
use mathlib.Core.Bool.{true}
use native.Mathlib.Omega.{arith}
use Rattle.std.specs.Prelude.{Ok, Err}
use Rattle.std.proofs.lemmas.Result.{err_from_is_err_and}
use Rattle.base.specs.Answer.{accepted, refused}
use Rattle.base.specs.declared.Refusal.TheVariants.{NotOffered}
use Rattle.base.specs.Outcome.{answer_of, check_answer}
use Rattle.base.proofs.OutcomeLaws.{refused_number, passed_on}
use Rattle.sheet.specs.Sheet.{sheet_of}
use Rattle.checking.specs.Passes.{Passes}
use Rattle.checking.proofs.PassesLaws.{header_sized, checked-iff}
use Rattle.checking.proofs.FitLaws.{fit}
use Rattle.costing.specs.Fit.{KeptFits}
use Rattle.costing.specs.declared.Kept.{Kept}
use Rattle.costing.proofs.SheetArcLaws.{kept_named, cost_whole, kept_fits}
use Rattle.costing.proofs.OfferedLaws.{named_known, offered_read, offered-iff}
use Rattle.costing.proofs.CostLaws.{cost-refused, cost_unoffered, cost-offered, cost_outcome}
use Rattle.costing.proofs.cost.Goals as goal

pub returns-in_err-check : goal.returns-in_err-check
returns-in_err-check c =
    let a = c.args in
    let r = c.from_residual.result in
    let p = err_from_is_err_and r c.from_residual.ensures.1 in
    let q : answer_of r ≡ check_answer c.check.result =
    passed_on (λ (t : ℕ). t) (λ d. 0) r c.check.result c.in_err-check.field-0.0 p.0 c.in_err-check.was p.1 p.2 in
    let t = cost-refused a.sheet.now a.option a.start a.end (answer_of r) (q ∙ c.check.ensures.answer) (refused_number (λ (t : ℕ). t) r p.0 p.1) in
    let held = cost_outcome a.sheet.now a.option a.start a.end r t in
    record { answer = held.0; accepted = held.1.0; near = held.1.1 }

pub terms_of-terms-requires : goal.terms_of-terms-requires
terms_of-terms-requires c = header_sized _ (c.check.ensures.accepted.0 (rw c.in_ok-check.was refl)).header

pub horizon_of-horizon-requires : goal.horizon_of-horizon-requires
horizon_of-horizon-requires c = header_sized _ (c.check.ensures.accepted.0 (rw c.in_ok-check.was refl)).header

pub discount_of-discount-requires : goal.discount_of-discount-requires
discount_of-discount-requires c = header_sized _ (c.check.ensures.accepted.0 (rw c.in_ok-check.was refl)).header

pub returns-then-not-offered_by : goal.returns-then-not-offered_by
returns-then-not-offered_by c =
    let a = c.args in
    let p = sheet_of a.sheet.now in
    let known = named_known a.option c.try_from.result c.try_from.ensures c.unwrap_or-activity.ensures in
    let tested = c.offered_by.ensures ∙ offered_read p a.option a.start a.end _ known c.horizon_of-horizon.ensures c.terms_of-terms.ensures in
    let passes : Passes a.sheet.now = c.check.ensures.accepted.0 (rw c.in_ok-check.was refl) in
    let t = cost_unoffered a.sheet.now a.option a.start a.end ((checked-iff _).1 passes) (sym tested ∙ c.if-not-offered_by.true) in
    let held = cost_outcome a.sheet.now a.option a.start a.end (Err NotOffered) t in
    record { answer = held.0; accepted = held.1.0; near = held.1.1 }

-- the arc is offered where the code goes on, and the option that is kept is the arc's
pub cost-units-requires : goal.cost-units-requires
cost-units-requires c =
    let a = c.args in
    let p = sheet_of a.sheet.now in
    let known = named_known a.option c.try_from.result c.try_from.ensures c.unwrap_or-activity.ensures in
    let tested = c.offered_by.ensures ∙ offered_read p a.option a.start a.end _ known c.horizon_of-horizon.ensures c.terms_of-terms.ensures in
    let o = (offered-iff p a.option a.start a.end).0 (sym tested ∙ c.if-not-offered_by.false) in
    let passes : Passes a.sheet.now = c.check.ensures.accepted.0 (rw c.in_ok-check.was refl) in
    let made = c.kept_on-kept.ensures ∙ kept_named p a.option a.start a.end known o.known c.terms_of-terms.ensures c.discount_of-discount.ensures c.since_of.ensures in
    let same : c.of.result.by ≡ c.kept_on-kept.result.discount = c.of.ensures.number ∙ sym (ap (λ (k : Kept). k.discount) c.kept_on-kept.ensures) in (
      record {
        fits = subst KeptFits (sym made) (kept_fits p a.option a.start a.end (fit _ passes) o.known (omega (arith, o.forward, o.inside)));
        divides = record { ready = c.of.ensures.ready; number = same };
      },
      omega (arith, o.forward, o.inside, passes.header.horizon.1),
    )

pub returns : goal.returns
returns c =
    let a = c.args in
    let p = sheet_of a.sheet.now in
    let known = named_known a.option c.try_from.result c.try_from.ensures c.unwrap_or-activity.ensures in
    let tested = c.offered_by.ensures ∙ offered_read p a.option a.start a.end _ known c.horizon_of-horizon.ensures c.terms_of-terms.ensures in
    let o = (offered-iff p a.option a.start a.end).0 (sym tested ∙ c.if-not-offered_by.false) in
    let made = c.kept_on-kept.ensures ∙ kept_named p a.option a.start a.end known o.known c.terms_of-terms.ensures c.discount_of-discount.ensures c.since_of.ensures in
    let passes : Passes a.sheet.now = c.check.ensures.accepted.0 (rw c.in_ok-check.was refl) in
    let units = c.cost-units.ensures ∙ cost_whole p a.option a.start a.end made c.pays_removal.ensures c.horizon_of-horizon.ensures in
    let t = ap accepted units ∙ cost-offered a.sheet.now a.option a.start a.end ((checked-iff _).1 passes) (sym tested ∙ c.if-not-offered_by.false) in
    let held = cost_outcome a.sheet.now a.option a.start a.end (Ok c.cost-units.result.0) t in
    record { answer = held.0; accepted = held.1.0; near = held.1.1 }
