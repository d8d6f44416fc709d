-- `budget` is what its definitions say: pricing's answer where that refuses, 15, 16, or both lists and the priced total. Assumes nothing.
use Prim.Native.Nat.{ℕ, ◌<◌}
use mathlib.Core.Path.{refl, ap, sym, subst, ◌∙◌}
use mathlib.Core.Bool.{true}
use mathlib.Core.Logic.Iff
use native.Mathlib.Omega.{arith}
use lib.ListN.{length}
use Rattle.std.proofs.lemmas.Result.{err_from_is_err_and}
use Rattle.base.specs.Answer.{refused}
use Rattle.base.specs.Outcome.{answer_of}
use Rattle.base.proofs.OutcomeLaws.{refused_number, passed_number, passed_on, ok_total}
use Rattle.sheet.specs.Sheet.{sheet_of}
use Rattle.sheet.proofs.ParsedLaws.{horizon_read}
use Rattle.checking.specs.Fit.{Fit}
use Rattle.checking.proofs.PassesLaws.{header_sized}
use Rattle.checking.proofs.FitLaws.{fit}
use Rattle.chain.specs.PlanBytes.{decode}
use Rattle.chain.specs.Ordered.{Ordered}
use Rattle.chain.proofs.FeasibleLaws.{ordered_of_feasible}
use Rattle.pricing.proofs.PriceLaws.{accepted-iff}
use Rattle.budget.specs.Budget.{last_in_cents, roomy}
use Rattle.budget.proofs.EndedLaws.{roomy_long, refused_ended, high_ended, short_ended, written_ended}
use Rattle.budget.proofs.budget.Goals as goal

pub returns-in_err-total : goal.returns-in_err-total
returns-in_err-total c =
    let a = c.args in
    let r = c.from_residual.result in
    let p = err_from_is_err_and r c.from_residual.ensures.1 in
    let q = passed_on (λ (t : ℕ). t) (λ (t : ℕ). t) r c.price.result c.in_err-total.field-0.0 p.0 c.in_err-total.was p.1 p.2 in
    let held =
    refused_ended a.sheet.now a.plan.now a.general a.units.now a.cents.now (answer_of r) (q ∙ c.price.ensures.answer)
    (λ t. rw q (Iff.trans (ok_total c.price.result t) (c.price.ensures.accepted t))) (refused_number (λ (t : ℕ). t) r p.0 p.1) in
    record { answer = held.0; units = held.1.0; cents = held.1.1.0; promised = held.1.1.1 }

pub returns-then-general-gt-LARGEST_INFLATION : goal.returns-then-general-gt-LARGEST_INFLATION
returns-then-general-gt-LARGEST_INFLATION c =
    let a = c.args in
    let held =
    high_ended a.sheet.now a.plan.now a.general a.units.now a.cents.now (answer_of c.price.result) c.price.ensures.answer
    (λ t. Iff.trans (ok_total c.price.result t) (c.price.ensures.accepted t)) (passed_number (λ (t : ℕ). t) c.price.result _ c.in_ok-total.was)
    (refused 15 3) refl (omega arith) in
    record { answer = held.0; units = held.1.0; cents = held.1.1.0; promised = held.1.1.1 }

pub parse-parsed-requires : goal.parse-parsed-requires
parse-parsed-requires c =
    let zero = passed_number (λ (t : ℕ). t) c.price.result _ c.in_ok-total.was in
    header_sized _ ((accepted-iff c.args.sheet.now c.args.plan.now).0 (rw (sym c.price.ensures.answer) zero)).0.header

pub returns-then-not-roomy : goal.returns-then-not-roomy
returns-then-not-roomy c =
    let a = c.args in
    let horizon = horizon_read _ _ c.parse-parsed.ensures in
    let short = ap (λ (T : ℕ). roomy T (length a.units.now) (length a.cents.now)) (sym horizon) ∙ sym c.roomy.ensures ∙ c.if-not-roomy.true in
    let held =
    short_ended a.sheet.now a.plan.now a.general a.units.now a.cents.now (answer_of c.price.result) c.price.ensures.answer
    (λ t. Iff.trans (ok_total c.price.result t) (c.price.ensures.accepted t)) (passed_number (λ (t : ℕ). t) c.price.result _ c.in_ok-total.was)
    (omega arith) (refused 16 3) refl short in
    record { answer = held.0; units = held.1.0; cents = held.1.1.0; promised = held.1.1.1 }

pub fill-requires : goal.fill-requires
fill-requires c =
    let a = c.args in
    let zero = passed_number (λ (t : ℕ). t) c.price.result _ c.in_ok-total.was in
    let h = (accepted-iff a.sheet.now a.plan.now).0 (rw (sym c.price.ensures.answer) zero) in
    let horizon = horizon_read _ _ c.parse-parsed.ensures in
    let room = ap (λ (T : ℕ). roomy T (length a.units.now) (length a.cents.now)) (sym horizon) ∙ sym c.roomy.ensures ∙ c.if-not-roomy.false in
    let long = roomy_long (sheet_of a.sheet.now).horizon (length a.units.now) (length a.cents.now) room in (
      record {
        fit = subst Fit (sym c.parse-parsed.ensures) (fit _ h.0);
        inflation = omega arith;
        units_long = subst (λ (T : ℕ). T < length a.units.now) (sym horizon) long.0;
        cents_long = subst (λ (T : ℕ). last_in_cents T < length a.cents.now) (sym horizon) long.1;
      },
      record {
        long = omega (arith, h.1.0.long);
        ordered = subst (λ (T : ℕ). Ordered T (decode a.plan.now)) (sym horizon) (ordered_of_feasible _ _ h.1.1);
      },
    )

pub returns : goal.returns
returns c =
    let a = c.args in
    let zero = passed_number (λ (t : ℕ). t) c.price.result _ c.in_ok-total.was in
    let h = (accepted-iff a.sheet.now a.plan.now).0 (rw (sym c.price.ensures.answer) zero) in
    let horizon = horizon_read _ _ c.parse-parsed.ensures in
    let room = ap (λ (T : ℕ). roomy T (length a.units.now) (length a.cents.now)) (sym horizon) ∙ sym c.roomy.ensures ∙ c.if-not-roomy.false in
    let held =
    written_ended a.sheet.now a.plan.now a.general a.units.now a.cents.now (answer_of c.price.result) c.price.ensures.answer
    (λ t. Iff.trans (ok_total c.price.result t) (c.price.ensures.accepted t)) zero (omega arith) c.fill.new.units c.fill.new.cents room
    (c.fill.ensures.units _ c.parse-parsed.ensures h.1.1) (c.fill.ensures.cents _ c.parse-parsed.ensures) in
    let ended = rw c.in_ok-total.was at held in
    record { answer = ended.0; units = ended.1.0; cents = ended.1.1.0; promised = ended.1.1.1 }
