-- `plan` is what its definitions say: refused by the check, too few words, or what the words and the plan of the chosen chain give. Its
-- promises follow from that alone. Assumes nothing.
use Prim.Native.Nat.{ℕ}
use mathlib.Core.Path.{◌≡◌, refl, sym, subst, ◌∙◌}
use mathlib.Core.List.{List}
use native.Mathlib.Omega.{arith}
use Rattle.std.proofs.lemmas.Result.{err_from_is_err_and}
use Rattle.base.specs.Outcome.{answer_of}
use Rattle.base.proofs.OutcomeLaws.{refused_number, passed_on}
use Rattle.sheet.specs.Sheet.{sheet_of}
use Rattle.sheet.specs.Parsed.{parsed}
use Rattle.sheet.specs.declared.Sheet.{Sheet}
use Rattle.checking.specs.Passes.{Passes}
use Rattle.checking.specs.Fit.{Fit, SheetFits}
use Rattle.checking.proofs.PassesLaws.{header_sized, checked-iff}
use Rattle.checking.proofs.FitLaws.{fit}
use Rattle.tails.specs.Words.{total_of, first_end}
use Rattle.planning.proofs.PlanningLaws.{plan_refused, plan_few, plan_on}
use Rattle.planner.proofs.FoundLaws.{years_held}
use Rattle.planner.proofs.Demands.{plan_answers}
use Rattle.planner.proofs.plan.Goals as goal

-- the parsed sheet of a sheet that passes fits
fits : (s : List ℕ) (v : Sheet) → Passes s → v ≡ parsed (sheet_of s) → SheetFits v
fits s v passes read = record { fit = subst Fit (sym read) (fit _ passes); sheet = sheet_of s; read = read }

pub returns-in_err-check : goal.returns-in_err-check
returns-in_err-check c =
    let a = c.args in
    let r = c.from_residual.result in
    let p = err_from_is_err_and r c.from_residual.ensures.1 in
    let q = passed_on (λ (t : ℕ). t) (λ d. 0) r c.check.result c.in_err-check.field-0.0 p.0 c.in_err-check.was p.1 p.2 in
    let held =
    plan_answers _ _ _
    (plan_refused a.sheet.now a.plan.now a.words.now (answer_of r) (q ∙ c.check.ensures.answer) (refused_number (λ (t : ℕ). t) r p.0 p.1)) in
    record { answer = held.0; plan = held.1.0; words = held.1.1.0; promised = held.1.1.1 }

pub returns-then-words-lt-WORDS : goal.returns-then-words-lt-WORDS
returns-then-words-lt-WORDS c =
    let a = c.args in
    let passes : Passes a.sheet.now = c.check.ensures.accepted.0 (rw c.in_ok-check.was refl) in
    let held = plan_answers _ _ _ (plan_few a.sheet.now a.plan.now a.words.now ((checked-iff _).1 passes) (omega arith)) in
    record { answer = held.0; plan = held.1.0; words = held.1.1.0; promised = held.1.1.1 }

pub parse-parsed-requires : goal.parse-parsed-requires
parse-parsed-requires c = header_sized _ (c.check.ensures.accepted.0 (rw c.in_ok-check.was refl)).header

pub tail_words-requires : goal.tail_words-requires
tail_words-requires c =
    (fits _ _ (c.check.ensures.accepted.0 (rw c.in_ok-check.was refl)) c.parse-parsed.ensures, omega arith, omega arith)

-- the words then have the totals of replacements
pub write_chosen-requires : goal.write_chosen-requires
write_chosen-requires c =
    let held = fits _ _ (c.check.ensures.accepted.0 (rw c.in_ok-check.was refl)) c.parse-parsed.ensures in
    let far = held.fit.horizon_high in
    let t = c.tail_words in (
      held,
      years_held total_of _ far _ _ (omega arith) t.ensures.words t.auto.words,
      years_held first_end _ far _ _ (omega arith) t.ensures.firsts t.auto.firsts,
    )

pub returns : goal.returns
returns c =
    let a = c.args in
    let passes : Passes a.sheet.now = c.check.ensures.accepted.0 (rw c.in_ok-check.was refl) in
    let read = c.parse-parsed.ensures in
    let w = c.write_chosen.ensures in
    let held =
    plan_answers _ _ _
    (plan_on a.sheet.now a.plan.now a.words.now ((checked-iff _).1 passes) (omega arith) _ _ _ (w.answer _ read) (w.plan _ read) (c.tail_words.ensures.words _ read)) in
    record { answer = held.0; plan = held.1.0; words = held.1.1.0; promised = held.1.1.1 }
