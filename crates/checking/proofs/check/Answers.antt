-- `check` is `checked`: the header's refusal, then the options' and their overhauls', left at the first refusal found. Assumes nothing.
use Prim.Native.Nat.{ℕ}
use mathlib.Core.Path.{◌≡◌, sym, ap, ◌∙◌}
use mathlib.Core.List.{[], ◌∷◌}
use native.Mathlib.Omega.{arith}
use Rattle.std.specs.Prelude.{Ok, Err, slice_index_or}
use Rattle.std.proofs.lemmas.Result.{err_from_is_err_and}
use Rattle.base.specs.declared.Activity.{Activity}
use Rattle.base.specs.declared.Activity.TheVariants.{Maintain, Renovate, Replace}
use Rattle.base.specs.declared.Refusal.TheVariants.{Overhauls}
use Rattle.base.specs.Outcome.{place, check_answer}
use Rattle.base.proofs.OutcomeLaws.{place_at}
use Rattle.sheet.specs.Sheet.{sheet_of}
use Rattle.sheet.specs.Parsed.{overhauls_of, terms_of}
use Rattle.sheet.specs.declared.Terms.{Terms}
use Rattle.checking.specs.Refusals.{checked}
use Rattle.checking.proofs.FirstLaws.{first_zero}
use Rattle.checking.proofs.RuleLaws.{age_before_zero, age_before_suc, entry_tested}
use Rattle.checking.proofs.PassesLaws.{header_sized, header-iff}
use Rattle.checking.proofs.CheckLaws.{check_accepts, discount_small, next_overhaul, next_option, header_passes, header_stops, all_passed, fields_stop, overhaul-refused, fields_pass}
use Rattle.checking.proofs.check.Goals as goal

-- the activity of a turn
abbrev at : ℕ → Activity
at k = slice_index_or (Maintain ∷ Renovate ∷ Replace ∷ []) k Maintain

pub returns-in_err-header : goal.returns-in_err-header
returns-in_err-header c =
    let p = err_from_is_err_and c.from_residual.result c.from_residual.ensures.1 in
    let t : check_answer c.from_residual.result ≡ checked c.args.sheet.now = header_stops _ _ c.header.result c.in_err-header.field-0.0 p.0 c.in_err-header.was p.1 p.2 c.header.ensures in
    record { answer = t; accepted = check_accepts _ _ t }

pub discount_of-discount-requires : goal.discount_of-discount-requires
discount_of-discount-requires c = header_sized _ ((header-iff _).0 (header_passes _ _ _ c.in_ok-header.was c.header.ensures))

pub loop-activity-init : goal.loop-activity-init
loop-activity-init c = first_zero _

pub terms_of-terms-requires : goal.terms_of-terms-requires
terms_of-terms-requires c = header_sized _ ((header-iff _).0 (header_passes _ _ _ c.in_ok-header.was c.header.ensures))

pub fields-requires : goal.fields-requires
fields-requires c = discount_small c.args.sheet.now _ c.discount_of-discount.ensures (header_passes _ _ _ c.in_ok-header.was c.header.ensures)

pub returns-in_err-fields : goal.returns-in_err-fields
returns-in_err-fields c =
    let p = err_from_is_err_and c.from_residual-in_err-fields.result c.from_residual-in_err-fields.ensures.1 in
    let k = c.loop-activity.activity-index in
    let e : place (at k) ≡ k = place_at k (omega arith) in
    let t : check_answer c.from_residual-in_err-fields.result ≡ checked c.args.sheet.now =
    fields_stop _ (header_passes _ _ _ c.in_ok-header.was c.header.ensures) (place (at k)) (omega arith) (rw e c.loop-activity.invariant)
    _ c.fields.result c.in_err-fields.field-0.0 p.0 c.in_err-fields.was p.1 p.2 (c.fields.ensures _ _ c.discount_of-discount.ensures c.terms_of-terms.ensures) in
    record { answer = t; accepted = check_accepts _ _ t }

pub loop-j-init : goal.loop-j-init
loop-j-init c = record { last = age_before_zero _; before = first_zero _ }

pub age_of-age-requires : goal.age_of-age-requires
age_of-age-requires c = (header_sized _ ((header-iff _).0 (header_passes _ _ _ c.in_ok-header.was c.header.ensures)), omega arith)

pub amount_of-amount-requires : goal.amount_of-amount-requires
amount_of-amount-requires c = (header_sized _ ((header-iff _).0 (header_passes _ _ _ c.in_ok-header.was c.header.ensures)), omega arith)

pub loop-j-preserved : goal.loop-j-preserved
unfolding terms_of overhauls_of
loop-j-preserved c =
    let o = (sheet_of c.args.sheet.now).option (place (at c.loop-activity.activity-index)) in
    let count = ap (λ (t : Terms). t.overhauls.count) c.terms_of-terms.ensures in
    let found = entry_tested _ _ c.entry_ok.ensures count c.loop-j.invariant.last c.age_of-age.ensures c.amount_of-amount.ensures in
    record {
      last = age_before_suc o _ c.age_of-age.result c.age_of-age.ensures;
      before = next_overhaul o _ _ c.loop-j.invariant.before (sym found ∙ c.if-not-entry_ok.false);
    }

pub loop-activity-preserved : goal.loop-activity-preserved
loop-activity-preserved c =
    let k = c.loop-activity.activity-index in
    let e : place (at k) ≡ k = place_at k (omega arith) in
    let fields = fields_pass _ _ _ c.fields.result _ c.in_ok-fields.was (c.fields.ensures _ _ c.discount_of-discount.ensures c.terms_of-terms.ensures) in
    next_option _ k c.loop-j.j c.loop-activity.invariant (rw e at fields) (omega arith) (rw e at c.loop-j.invariant.before)

pub returns-then-not-entry_ok : goal.returns-then-not-entry_ok
unfolding terms_of overhauls_of
returns-then-not-entry_ok c =
    let k = c.loop-activity.activity-index in
    let e : place (at k) ≡ k = place_at k (omega arith) in
    let count = ap (λ (t : Terms). t.overhauls.count) c.terms_of-terms.ensures in
    let found = entry_tested _ _ c.entry_ok.ensures count c.loop-j.invariant.last c.age_of-age.ensures c.amount_of-amount.ensures in
    let t = overhaul-refused _ (header_passes _ _ _ c.in_ok-header.was c.header.ensures) (place (at k)) (omega arith) (rw e c.loop-activity.invariant) c.loop-j.j
    (fields_pass _ _ _ c.fields.result _ c.in_ok-fields.was (c.fields.ensures _ _ c.discount_of-discount.ensures c.terms_of-terms.ensures))
    (omega arith) c.loop-j.invariant.before (sym found ∙ c.if-not-entry_ok.true) in
    record { answer = t; accepted = check_accepts _ (Err (Overhauls (at k))) t }

pub returns-after-loop-activity : goal.returns-after-loop-activity
returns-after-loop-activity c =
    let t = all_passed _ (header_passes _ _ _ c.in_ok-header.was c.header.ensures) c.loop-activity.activity-index (omega arith) c.loop-activity.invariant in
    record { answer = t; accepted = check_accepts _ (Ok tt) t }
