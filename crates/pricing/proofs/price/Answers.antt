-- `price` is `priced`: refused by the check, or no plan of a feasible chain, or the chain's rounded total. Assumes nothing.
use Prim.Native.Nat.{ℕ}
use mathlib.Core.Path.{◌≡◌, refl, sym, subst, ap, ◌∙◌}
use mathlib.Core.Bool.{true}
use native.Mathlib.Omega.{arith}
use Rattle.std.specs.Prelude.{Ok, Err}
use Rattle.std.proofs.lemmas.Result.{err_from_is_err_and}
use Rattle.base.specs.Answer.{accepted}
use Rattle.base.specs.declared.Refusal.TheVariants.{NotAChain}
use Rattle.base.specs.Outcome.{answer_of, check_answer}
use Rattle.base.proofs.OutcomeLaws.{refused_number, passed_on}
use Rattle.sheet.specs.Sheet.{sheet_of}
use Rattle.sheet.proofs.ParsedLaws.{horizon_read}
use Rattle.checking.specs.Passes.{Passes}
use Rattle.checking.specs.Fit.{Fit}
use Rattle.checking.proofs.PassesLaws.{header_sized, checked-iff}
use Rattle.checking.proofs.FitLaws.{fit}
use Rattle.chain.specs.PlanBytes.{decode}
use Rattle.chain.specs.Ordered.{Ordered}
use Rattle.chain.proofs.FeasibleLaws.{ordered_of_feasible}
use Rattle.pricing.specs.Fitting.{fitting}
use Rattle.pricing.proofs.FittingLaws.{fitting-iff}
use Rattle.pricing.proofs.PriceLaws.{price_refused, price_unfit, price_fit, price_outcome}
use Rattle.pricing.proofs.price.Goals as goal

pub returns-in_err-check : goal.returns-in_err-check
returns-in_err-check c =
    let a = c.args in
    let r = c.from_residual.result in
    let p = err_from_is_err_and r c.from_residual.ensures.1 in
    let q : answer_of r ≡ check_answer c.check.result =
    passed_on (λ (t : ℕ). t) (λ d. 0) r c.check.result c.in_err-check.field-0.0 p.0 c.in_err-check.was p.1 p.2 in
    let t = price_refused a.sheet.now a.plan.now (answer_of r) (q ∙ c.check.ensures.answer) (refused_number (λ (t : ℕ). t) r p.0 p.1) in
    let held = price_outcome a.sheet.now a.plan.now (λ k l. omega (arith, c.type_inv.plan k)) r t in
    record { answer = held.0; accepted = held.1.0; near = held.1.1 }

pub parse-parsed-requires : goal.parse-parsed-requires
parse-parsed-requires c = header_sized _ (c.check.ensures.accepted.0 (rw c.in_ok-check.was refl)).header

pub returns-then-not-plan_fits : goal.returns-then-not-plan_fits
returns-then-not-plan_fits c =
    let a = c.args in
    let passes : Passes a.sheet.now = c.check.ensures.accepted.0 (rw c.in_ok-check.was refl) in
    let out = sym (c.plan_fits.ensures _ c.parse-parsed.ensures) ∙ c.if-not-plan_fits.true in
    let t = price_unfit a.sheet.now a.plan.now ((checked-iff _).1 passes) out in
    let held = price_outcome a.sheet.now a.plan.now (λ k l. omega (arith, c.type_inv.plan k)) (Err NotAChain) t in
    record { answer = held.0; accepted = held.1.0; near = held.1.1 }

pub plan_total-units-requires : goal.plan_total-units-requires
plan_total-units-requires c =
    let a = c.args in
    let passes : Passes a.sheet.now = c.check.ensures.accepted.0 (rw c.in_ok-check.was refl) in
    let found : fitting (sheet_of a.sheet.now) a.plan.now ≡ true =
    sym (c.plan_fits.ensures _ c.parse-parsed.ensures) ∙ c.if-not-plan_fits.false in
    let h = (fitting-iff _ _).0 found in
    let long = h.0.long in
    let horizon = horizon_read _ _ c.parse-parsed.ensures in
    record {
      fit = (subst Fit (sym c.parse-parsed.ensures) (fit _ passes), omega arith);
      ordered = subst (λ (T : ℕ). Ordered T (decode a.plan.now)) (sym horizon) (ordered_of_feasible _ _ h.1);
    }

pub returns : goal.returns
returns c =
    let a = c.args in
    let passes : Passes a.sheet.now = c.check.ensures.accepted.0 (rw c.in_ok-check.was refl) in
    let found : fitting (sheet_of a.sheet.now) a.plan.now ≡ true =
    sym (c.plan_fits.ensures _ c.parse-parsed.ensures) ∙ c.if-not-plan_fits.false in
    let units = c.plan_total-units.ensures _ c.parse-parsed.ensures in
    let t = ap accepted units ∙ price_fit a.sheet.now a.plan.now ((checked-iff _).1 passes) found in
    let held = price_outcome a.sheet.now a.plan.now (λ k l. omega (arith, c.type_inv.plan k)) (Ok c.plan_total-units.result.0) t in
    record { answer = held.0; accepted = held.1.0; near = held.1.1 }
