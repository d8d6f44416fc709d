-- What `priced` answers: the ways in which `price` ends, when it accepts and at which total (`accepted-iff`, `priced-iff`, `priced-encode`), how near
-- that total is to the exact value (`priced_near`), and the range of the answer (`priced_option`, `priced_total`, `priced_number_le`,
-- `priced_packs`). Assumes nothing.
use Prim.Native.Nat.{ℕ, ◌≤◌, ◌<◌}
use mathlib.Core.Path.{◌≡◌, refl, ap, sym, subst, ◌∙◌}
use mathlib.Core.List.{List}
use mathlib.Core.Bool.{Bool, true, false}
use mathlib.Core.Logic.{◌↔◌}
use native.Mathlib.Omega.{arith}
use lib.ListN.{length, get_or}
use Rattle.std.specs.Prelude.{Result, Ok, IfOk}
use Rattle.base.specs.Answer.{accepted, refused, Packs}
use Rattle.base.specs.declared.Answer.{Answer}
use Rattle.base.specs.declared.Refusal.{Refusal}
use Rattle.base.specs.Outcome.{answer_of}
use Rattle.base.proofs.OutcomeLaws.{priced_exactly, near_total}
use Rattle.base.proofs.CallLaws.{call-refused, call_stopped, call_passed, call-iff, call-accepted, call_option, call_total, call_number_le, call_packs}
use Rattle.sheet.specs.Sheet.{sheet_of}
use Rattle.checking.specs.Refusals.{checked}
use Rattle.checking.specs.Passes.{Passes}
use Rattle.checking.proofs.PassesLaws.{checked-iff}
use Rattle.checking.proofs.RangeLaws.{checked_total, checked_number_le, checked_packs}
use Rattle.checking.proofs.FitLaws.{fit}
use Rattle.chain.specs.Chain.{Chain, Feasible, rounded_total}
use Rattle.chain.specs.Error.{TotalNear}
use Rattle.chain.specs.PlanBytes.{encode, total_field, decode, Shaped}
use Rattle.chain.proofs.PlanBytesLaws.{encode-shaped, encode-decode}
use Rattle.chain.proofs.FeasibleLaws.{narrow_of_feasible, decode-feasible}
use Rattle.chain.proofs.TotalLaws.{rounded_total-lt}
use Rattle.chain.proofs.ErrorOfChain.{total_near}
use Rattle.pricing.specs.Fitting.{fitting}
use Rattle.pricing.specs.Pricing.{pricing, priced, PricedAt}
use Rattle.pricing.proofs.FittingLaws.{fitting-iff}

module _ (s plan : List ℕ) where
  -- pricing is a call with one rule of its own, 14: the plan is that of a feasible chain
  abbrev rule : Bool
  rule = fitting (sheet_of s) plan

  abbrev units : ℕ
  units = rounded_total (sheet_of s) (decode plan)

  -- the ways out: refused by the check, no plan of a feasible chain, such a plan
  pub price_refused : (a : Answer) → a ≡ checked s → (a.number ≡ 0 → ⊥) → a ≡ priced s plan
  unfolding priced pricing
  price_refused = call-refused (checked s) rule 14 units

  pub price_unfit : (checked s).number ≡ 0 → fitting (sheet_of s) plan ≡ false → refused 14 3 ≡ priced s plan
  unfolding priced pricing
  price_unfit = call_stopped (checked s) rule 14 units

  pub price_fit :
      (checked s).number ≡ 0 → fitting (sheet_of s) plan ≡ true → accepted (rounded_total (sheet_of s) (decode plan)) ≡ priced s plan
  unfolding priced pricing
  price_fit = call_passed (checked s) rule 14 units

  -- accepted exactly when the sheet passes its checks and the plan has the shape and holds a feasible chain
  pub accepted-iff : ((priced s plan).number ≡ 0) ↔ (Passes s × (Shaped plan × Feasible (sheet_of s) (decode plan)))
  unfolding priced pricing
  accepted-iff = call-iff (checked s) rule 14 units (omega arith) (checked-iff s) (fitting-iff (sheet_of s) plan)

  -- with 0, 3 and the total of the chain that the plan holds
  pub priced-accepted : (priced s plan).number ≡ 0 → priced s plan ≡ accepted (rounded_total (sheet_of s) (decode plan))
  unfolding priced pricing
  priced-accepted = call-accepted (checked s) rule 14 units (omega arith)

  -- bytes that encode a feasible chain of a sheet that passes, with any total field, are priced at its rounded total
  encoded_priced :
      Passes s → (c : Chain) → Feasible (sheet_of s) c → (field : ℕ) → plan ≡ encode field c
      → priced s plan ≡ accepted (rounded_total (sheet_of s) c)
  encoded_priced h c feasible field encoded =
      let horizon = h.header.horizon.1 in
      let narrow = narrow_of_feasible (sheet_of s) (omega arith) c feasible in
      let shape = subst Shaped (sym encoded) (encode-shaped field c narrow) in
      let same = ap decode encoded ∙ decode-feasible (sheet_of s) (omega arith) c feasible field in
      let fits = (fitting-iff (sheet_of s) plan).1 (shape, subst (Feasible (sheet_of s)) (sym same) feasible) in
      sym (price_fit ((checked-iff s).1 h) fits) ∙ ap (λ (d : Chain). accepted (rounded_total (sheet_of s) d)) same

  -- accepted with a total exactly when the plan is priced at it
  priced-iff :
      ((k : ℕ) → k < length plan → get_or plan k 0 < 256)
      → (total : ℕ) → (((priced s plan).number ≡ 0) × ((priced s plan).total ≡ total)) ↔ PricedAt s plan total
  priced-iff byte total = (
    λ e.
        let h = accepted-iff.0 e.0 in
        record {
          passes = h.0;
          chain = decode plan;
          feasible = h.1.1;
          field = total_field plan;
          encoded = sym (encode-decode plan h.1.0 byte);
          sum = sym e.1 ∙ ap (λ (a : Answer). a.total) (priced-accepted e.0);
        },
    λ h.
        let e = encoded_priced h.passes h.chain h.feasible _ h.encoded in
        (ap (λ (a : Answer). a.number) e, ap (λ (a : Answer). a.total) e ∙ sym h.sum),
  )

  priced_near : (priced s plan).number ≡ 0 → TotalNear (sheet_of s) (decode plan) (priced s plan).total
  priced_near e =
      let h = accepted-iff.0 e in
      rw (priced-accepted e) (total_near (sheet_of s) (fit s h.0) (decode plan) h.1.1)

  -- what was answered, when it is an acceptance with a total, and how near that total then is
  pub price_answers :
      ((k : ℕ) → k < length plan → get_or plan k 0 < 256)
      → (a : Answer) → a ≡ priced s plan
      → (a ≡ priced s plan)
      × (((total : ℕ) → ((a.number ≡ 0) × (a.total ≡ total)) ↔ PricedAt s plan total)
      × (a.number ≡ 0 → TotalNear (sheet_of s) (decode plan) a.total))
  price_answers byte a e = (e, (rw e (priced-iff byte), rw e priced_near))

  -- the same of an outcome that answers so
  pub price_outcome :
      ((k : ℕ) → k < length plan → get_or plan k 0 < 256)
      → (r : Result ℕ Refusal) → answer_of r ≡ priced s plan
      → (answer_of r ≡ priced s plan)
      × (((total : ℕ) → (r ≡ Ok total) ↔ PricedAt s plan total)
      × IfOk r (TotalNear (sheet_of s) (decode plan)))
  price_outcome byte r e =
      let held = price_answers byte (answer_of r) e in
      (e, (priced_exactly r held.1.0, near_total r (TotalNear (sheet_of s) (decode plan)) held.1.1))

  -- a sheet that passes gets option 3, and with every refusal the total is 0
  pub priced_option : Passes s → (priced s plan).option ≡ 3
  unfolding priced pricing
  priced_option h = call_option (checked s) rule 14 units ((checked-iff s).1 h)

  pub priced_total : ((priced s plan).number ≡ 0 → ⊥) → (priced s plan).total ≡ 0
  unfolding priced pricing
  priced_total = call_total (checked s) rule 14 units (λ d. checked_total s)

  pub priced_number_le : (priced s plan).number ≤ 14
  unfolding priced pricing
  priced_number_le = call_number_le (checked s) rule 14 units 14 (omega (arith, checked_number_le s)) (omega arith)

  pub priced_packs : Packs (priced s plan)
  unfolding priced pricing
  priced_packs =
      call_packs (checked s) rule 14 units (checked_packs s) (omega arith)
      (λ z e. rounded_total-lt (sheet_of s) (fit s ((checked-iff s).0 z)) (decode plan) ((fitting-iff (sheet_of s) plan).0 e).1)

-- so the encoding of every feasible chain is priced at its rounded total, whatever its total field says
pub priced-encode :
    (s : List ℕ) → Passes s → (c : Chain) → Feasible (sheet_of s) c → (field : ℕ)
    → priced s (encode field c) ≡ accepted (rounded_total (sheet_of s) c)
priced-encode s h c feasible field = encoded_priced s (encode field c) h c feasible field refl
