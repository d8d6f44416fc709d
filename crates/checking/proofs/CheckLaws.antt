-- The check's two loops follow `checked`: one law for a turn of each loop, and one for each way out. Before them, that an answer which is
-- `checked` accepts the sheets that pass (`check_answers`), and so an outcome (`check_accepts`), and how large the discount factor is (`discount_small`). Assumes
-- nothing.
use Prim.Native.Nat.{ℕ, ◌+◌, ◌≤◌, ◌<◌}
use mathlib.Core.Path.{◌≡◌, refl, sym, ap, ◌∙◌}
use mathlib.Core.List.{List}
use mathlib.Core.Bool.{true, false}
use mathlib.Core.Logic.Iff
use mathlib.Core.Logic.{◌↔◌}
use native.Mathlib.Omega.{arith}
use Rattle.std.specs.Prelude.{Result, Ok, Err, IsOk}
use Rattle.base.specs.Answer.{accepted, refused, answered, ◌unless◌else◌}
use Rattle.base.specs.declared.Answer.{Answer}
use Rattle.base.specs.declared.Refusal.{Refusal}
use Rattle.base.specs.Outcome.{check_answer}
use Rattle.base.proofs.AnswerLaws.{answered-iff, or_else_stop}
use Rattle.base.proofs.OutcomeLaws.{accepted_number, refused_number, passed_number, passed_on}
use Rattle.sheet.specs.Sheet.{OptionRecord, sheet_of}
use Rattle.checking.specs.Refusals.{overhaul_ok, header_number, fields_number, overhaul_answer, first_below, option_answer, checked}
use Rattle.checking.specs.Passes.{Passes}
use Rattle.checking.proofs.FirstLaws.{first_suc, first_found}
use Rattle.checking.proofs.PassesLaws.{header-iff, checked-iff}

-- a check answers no total
abbrev none : Unit {0} → ℕ
none d = 0

-- an answer a, which is b, is that of `checked`, and it accepts exactly the sheets that pass
pub check_answers : (s : List ℕ) (a b : Answer) → a ≡ b → b ≡ checked s → (a ≡ checked s) × ((a.number ≡ 0) ↔ Passes s)
check_answers s a b p q = (p ∙ q, rw (p ∙ q) (checked-iff s))

-- an outcome that answers as `checked` does accepts exactly the sheets that pass
pub check_accepts : (s : List ℕ) (r : Result Unit Refusal) → check_answer r ≡ checked s → IsOk r ↔ Passes s
check_accepts s r t = Iff.trans (Iff.symm (accepted_number none r)) (check_answers s (check_answer r) (check_answer r) refl t).1

-- the discount factor of a sheet whose header passes
pub discount_small : (s : List ℕ) (discount : ℕ) → discount ≡ 1_000_000 + (sheet_of s).rate → header_number s ≡ 0 → discount ≤ 1_200_000
discount_small s discount d h = let r = ((header-iff s).0 h).rate in omega arith

-- a turn of the inner loop
pub next_overhaul :
    (o : OptionRecord) (k j : ℕ) → first_below j (overhaul_answer o k) ≡ accepted 0 → overhaul_ok o j ≡ true →
    first_below (j + 1) (overhaul_answer o k) ≡ accepted 0
unfolding overhaul_answer ◌unless◌else◌
next_overhaul o k j e q = first_suc j (overhaul_answer o k) e ∙ rw q

module _ (s : List ℕ) where
  -- a turn of the outer loop
  pub next_option :
      (k j : ℕ) → first_below k (option_answer (sheet_of s)) ≡ accepted 0 → fields_number (sheet_of s).rate ((sheet_of s).option k) ≡ 0 →
      j ≡ 8 → first_below j (overhaul_answer ((sheet_of s).option k) k) ≡ accepted 0 →
      first_below (k + 1) (option_answer (sheet_of s)) ≡ accepted 0
  unfolding option_answer
  next_option k j e f q g = first_suc k (option_answer (sheet_of s)) e ∙ rw (f, ← q, g)

  -- the header's outcome: a refusal is the sheet's
  pub header_passes : (h : Result Unit Refusal) (d : Unit {0}) → h ≡ Ok d → check_answer h ≡ answered (header_number s) 3 → header_number s ≡ 0
  header_passes h d was found =
      let z : (check_answer h).number ≡ 0 = passed_number none h d was in
      (answered-iff (header_number s) 3).0 (ap (λ (a : Answer). a.number) (sym found) ∙ z)

  pub header_stops :
      (r h : Result Unit Refusal) (e y : Refusal) → h ≡ Err e → r ≡ Err y → y ≡ e → check_answer h ≡ answered (header_number s) 3 →
      check_answer r ≡ checked s
  unfolding checked
  header_stops r h e y was is same found =
      let z : (answered (header_number s) 3).number ≡ 0 → ⊥ = λ n. refused_number none h e was (rw found n) in
      passed_on none none r h e y was is same ∙ found ∙ sym (or_else_stop (answered (header_number s) 3) _ z)

  -- the ways out behind it
  module _ (passed : header_number s ≡ 0) where
    pub all_passed : (k : ℕ) → k ≡ 3 → first_below k (option_answer (sheet_of s)) ≡ accepted 0 → accepted 0 ≡ checked s
    unfolding checked
    all_passed k q e = rw (passed, rw q at e)

    module _ (k : ℕ) (inside : k < 3) (before : first_below k (option_answer (sheet_of s)) ≡ accepted 0) where
      option_stops : (a : Answer) → (a.number ≡ 0 → ⊥) → option_answer (sheet_of s) k ≡ a → a ≡ checked s
      unfolding checked
      option_stops a h q =
          let z : (option_answer (sheet_of s) k).number ≡ 0 → ⊥ = rw q h in
          rw passed (sym (first_found k 3 (option_answer (sheet_of s)) inside before z ∙ q))

      pub fields_stop :
          (r h : Result Unit Refusal) (e y : Refusal) → h ≡ Err e → r ≡ Err y → y ≡ e →
          check_answer h ≡ answered (fields_number (sheet_of s).rate ((sheet_of s).option k)) k → check_answer r ≡ checked s
      unfolding option_answer
      fields_stop r h e y was is same found =
          let a = answered (fields_number (sheet_of s).rate ((sheet_of s).option k)) k in
          let z : a.number ≡ 0 → ⊥ = λ n. refused_number none h e was (rw found n) in
          passed_on none none r h e y was is same ∙ found ∙ option_stops a z (or_else_stop a _ z)

      pub overhaul-refused :
          (j : ℕ) → fields_number (sheet_of s).rate ((sheet_of s).option k) ≡ 0 → j < 8 →
          first_below j (overhaul_answer ((sheet_of s).option k) k) ≡ accepted 0 → overhaul_ok ((sheet_of s).option k) j ≡ false →
          refused 9 k ≡ checked s
      unfolding option_answer overhaul_answer ◌unless◌else◌
      overhaul-refused j f l e q =
          let found : overhaul_answer ((sheet_of s).option k) k j ≡ refused 9 k = rw q in
          let z : (overhaul_answer ((sheet_of s).option k) k j).number ≡ 0 → ⊥ = rw found (λ h. omega arith) in
          option_stops (refused 9 k) (λ h. omega arith) (rw f (first_found j 8 (overhaul_answer ((sheet_of s).option k) k) l e z ∙ found))

-- an option's fields whose outcome accepts
pub fields_pass :
    (r k : ℕ) (o : OptionRecord) (h : Result Unit Refusal) (d : Unit {0}) → h ≡ Ok d → check_answer h ≡ answered (fields_number r o) k → fields_number r o ≡ 0
fields_pass r k o h d was found =
    let z : (check_answer h).number ≡ 0 = passed_number none h d was in
    (answered-iff (fields_number r o) k).0 (ap (λ (a : Answer). a.number) (sym found) ∙ z)
