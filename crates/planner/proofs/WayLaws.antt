-- In which way planning ends (`way`). Each number comes from one of the ways (`ten_of`, `eleven_of`, `twelve_of`, `done_of`; that of a faulty
-- sheet is not 0, `fault_some`), and where its facts hold it is answered (`ten_when`, `eleven_when`, `twelve_when`, `zero_when`, `ample_when`).
-- What holds of every way's answer holds of the call's (`way_all`): so a faulty sheet is answered as the check answers it (`way_checked`).
-- Assumes nothing.
use Prim.Native.Nat.{ℕ, ◌≤◌, ◌<◌}
use mathlib.Core.Path.{◌≡◌, refl, ap, sym, subst, ◌∙◌}
use mathlib.Core.List.{List}
use native.Mathlib.Nat.{pos_of_ne-zero}
use native.Mathlib.Omega.{arith}
use lib.Dec.{leb, ltb, eqb}
use lib.ListN.{length}
use lib.Seq.{sets}
use borrow.Author.Tests.{eqb-true, eqb-false, leb-true, leb-false, ltb-true, ltb-false}
use Rattle.base.specs.Answer.{accepted, refused}
use Rattle.base.specs.declared.Answer.{Answer}
use Rattle.base.proofs.TestLaws.{by_test}
use Rattle.sheet.specs.Sheet.{PlanningSheet, sheet_of}
use Rattle.checking.specs.Refusals.{checked}
use Rattle.checking.specs.Passes.{Passes}
use Rattle.checking.proofs.PassesLaws.{checked-iff}
use Rattle.checking.proofs.RangeLaws.{checked_total, checked_number_le}
use Rattle.checking.proofs.FitLaws.{fit}
use Rattle.choice.specs.Running.{no_total}
use Rattle.chain.specs.Chain.{Chain, Feasible, rounded_total}
use Rattle.chain.specs.ChosenChain.{ChosenChain}
use Rattle.chain.specs.PlanBytes.{plan_size, plan_length, encode}
use Rattle.chain.proofs.FeasibleLaws.{few_ends}
use Rattle.chain.proofs.ChosenLaws.{chosen_chain_only}
use Rattle.tails.specs.Words.{words_needed}
use Rattle.front.specs.Planned.{planned}
use Rattle.front.proofs.PlannedLaws.{planned_none, planned_chosen}
use Rattle.planning.specs.Planning.{found, plan_answer}
use Rattle.planning.proofs.PlanningLaws.{planning_none, planning_short, planning_fits, plan_refused, plan_few, plan_on}
use Rattle.planner.specs.Promises.{Ready, CheckedFirst}
use Rattle.planner.specs.Ways.{Done, Way, faulty, few, none, short, written}

pub number_of : {a b : Answer} → a ≡ b → a.number ≡ b.number
number_of e = ap (λ (a : Answer). a.number) e

module _ (s plan words : List ℕ) where
  abbrev p : PlanningSheet
  p = sheet_of s

  module _ (ready : Ready s words) where
    passed : (checked s).number ≡ 0
    passed = (checked-iff s).1 ready.passes

    enough : words_needed ≤ length words
    enough = omega (arith, ready.enough)

    way_none : (planned p).total ≡ no_total → Way s plan words
    way_none q =
        let e = planning_none p plan q in
        let o = plan_on s plan words passed enough _ _ _ e.0 e.1 refl in
        none ready ((planned_none p (fit s ready.passes)).0 q) (sym o.0) (sym o.1)

    module _ (there : (planned p).total ≡ no_total → ⊥) where
      way_short : length plan < plan_length (found p) → Way s plan words
      way_short l =
          let e = planning_short p plan there l in
          let o = plan_on s plan words passed enough _ _ _ e.0 e.1 refl in
          short ready (planned_chosen p (fit s ready.passes) there).0 l (sym o.0) (sym o.1)

      is_done : plan_length (found p) ≤ length plan → Done s plan words
      is_done l =
          let e = planning_fits p plan there l in
          let o = plan_on s plan words passed enough _ _ _ e.0 e.1 refl in
          let c = planned_chosen p (fit s ready.passes) there in
          record {
            ready = ready;
            chosen = c.0;
            room = l;
            answer = sym o.0 ∙ ap accepted c.1;
            written = sym o.1 ∙ ap (λ (t : ℕ). sets plan 0 (encode t (found p))) c.1;
          }

    way_ready : Way s plan words
    way_ready =
        by_test (eqb (planned p).total no_total) (λ t. way_none (eqb-true (planned p).total no_total t))
        (λ t.
        let there = eqb-false (planned p).total no_total t in
        by_test (ltb (length plan) (plan_length (found p))) (λ u. way_short there (ltb-true (length plan) (plan_length (found p)) u))
        (λ u. written (is_done there (ltb-false (length plan) (plan_length (found p)) u))))

    -- where a chain is feasible, one has been found
    there_when : (c : Chain) → Feasible p c → (planned p).total ≡ no_total → ⊥
    there_when c h q = (planned_none p (fit s ready.passes)).0 q c h

    found_when : (c : Chain) → ChosenChain p c → c ≡ found p
    found_when c h =
        chosen_chain_only p c (found p) h (planned_chosen p (fit s ready.passes) (there_when c h.feasible)).0

  way_passed : Passes s → Way s plan words
  way_passed h =
      by_test (leb words_needed (length words)) (λ t. way_ready (record { passes = h; enough = omega (arith, leb-true words_needed (length words) t) }))
      (λ t.
      let l = leb-false words_needed (length words) t in
      let o = plan_few s plan words ((checked-iff s).1 h) l in
      few h l (sym o.0) (sym o.1) (sym o.2))

  pub way : Way s plan words
  way =
      by_test (eqb (checked s).number 0) (λ t. way_passed ((checked-iff s).0 (eqb-true (checked s).number 0 t)))
      (λ t.
      let fault = eqb-false (checked s).number 0 t in
      let o = plan_refused s plan words (checked s) refl fault in
      faulty (λ h. fault ((checked-iff s).1 h)) (sym o.0) (sym o.1) (sym o.2))

  -- where the facts hold, the number is answered
  pub ten_when : Passes s × (length words < words_needed) → (plan_answer s plan words).number ≡ 10
  ten_when h = sym (number_of (plan_few s plan words ((checked-iff s).1 h.0) h.1).0)

  pub eleven_when : Ready s words × ((c : Chain) → Feasible p c → ⊥) → (plan_answer s plan words).number ≡ 11
  eleven_when h =
      let e = planning_none p plan ((planned_none p (fit s h.0.passes)).1 h.1) in
      sym (number_of (plan_on s plan words (passed h.0) (enough h.0) _ _ _ e.0 e.1 refl).0)

  pub twelve_when :
      Ready s words × ((c : Chain) × (ChosenChain p c × (length plan < plan_length c))) → (plan_answer s plan words).number ≡ 12
  twelve_when h =
      let c = h.1.0 in
      let chosen = h.1.1.0 in
      let l = subst (λ (c : Chain). length plan < plan_length c) (found_when h.0 c chosen) h.1.1.1 in
      let e = planning_short p plan (there_when h.0 c chosen.feasible) l in
      sym (number_of (plan_on s plan words (passed h.0) (enough h.0) _ _ _ e.0 e.1 refl).0)

  pub zero_when :
      Ready s words × ((c : Chain) × (ChosenChain p c × (plan_length c ≤ length plan))) → (plan_answer s plan words).number ≡ 0
  zero_when h =
      let c = h.1.0 in
      let chosen = h.1.1.0 in
      let l = subst (λ (c : Chain). plan_length c ≤ length plan) (found_when h.0 c chosen) h.1.1.1 in
      number_of (is_done h.0 (there_when h.0 c chosen.feasible) l).answer

  -- a chain has at most T replacements
  pub ample_when :
      Ready s words → plan_size p.horizon ≤ length plan → (c : Chain) → Feasible p c → (plan_answer s plan words).number ≡ 0
  ample_when h room c f =
      let there = there_when h c f in
      let chosen = (planned_chosen p (fit s h.passes) there).0 in
      number_of (is_done h there (omega (arith, few_ends p (found p) chosen.feasible))).answer

-- the number of a faulty sheet is one from 1 to 9
module _ (s plan words : List ℕ) (e : plan_answer s plan words ≡ checked s) where
  fault_number : (plan_answer s plan words).number ≤ 9
  fault_number = rw e (checked_number_le s)

  pub fault_some : (Passes s → ⊥) → 1 ≤ (plan_answer s plan words).number
  fault_some fault = pos_of_ne-zero (λ z. fault ((checked-iff s).0 (sym (number_of e) ∙ z)))

-- each number comes from one way
module _ {s plan words : List ℕ} where
  pub ten_of : Way s plan words → (plan_answer s plan words).number ≡ 10 → Passes s × (length words < words_needed)
  ten_of (faulty f a l w) e = absurd (omega (arith, fault_number s plan words a))
  ten_of (few h l a b w) e = (h, l)
  ten_of (none h f a l) e = absurd (omega (arith, number_of a))
  ten_of (short h c r a l) e = absurd (omega (arith, number_of a))
  ten_of (written d) e = absurd (omega (arith, number_of d.answer))

  pub eleven_of : Way s plan words → (plan_answer s plan words).number ≡ 11 → Ready s words × ((c : Chain) → Feasible (sheet_of s) c → ⊥)
  eleven_of (faulty f a l w) e = absurd (omega (arith, fault_number s plan words a))
  eleven_of (few h l a b w) e = absurd (omega (arith, number_of a))
  eleven_of (none h f a l) e = (h, f)
  eleven_of (short h c r a l) e = absurd (omega (arith, number_of a))
  eleven_of (written d) e = absurd (omega (arith, number_of d.answer))

  pub twelve_of :
      Way s plan words → (plan_answer s plan words).number ≡ 12
      → Ready s words × ((c : Chain) × (ChosenChain (sheet_of s) c × (length plan < plan_length c)))
  twelve_of (faulty f a l w) e = absurd (omega (arith, fault_number s plan words a))
  twelve_of (few h l a b w) e = absurd (omega (arith, number_of a))
  twelve_of (none h f a l) e = absurd (omega (arith, number_of a))
  twelve_of (short h c r a l) e = (h, (found (sheet_of s), (c, r)))
  twelve_of (written d) e = absurd (omega (arith, number_of d.answer))

  -- 0 is answered where a plan was written; a faulty sheet's number is not 0
  pub done_of : Way s plan words → (plan_answer s plan words).number ≡ 0 → Done s plan words
  done_of (faulty f a l w) e = absurd (omega (arith, fault_some s plan words a f))
  done_of (few h l a b w) e = absurd (omega (arith, number_of a))
  done_of (none h f a l) e = absurd (omega (arith, number_of a))
  done_of (short h c r a l) e = absurd (omega (arith, number_of a))
  done_of (written d) e = d

-- what holds of the check's answer to a faulty sheet, of refusals up to 12 of one that passes, and of a total with which a plan was written
-- holds of what planning answers
module _
    {s plan words : List ℕ} (P : Answer → Type 0) (fault : (Passes s → ⊥) → P (checked s))
    (stop : Passes s → (n : ℕ) → n ≤ 12 → P (refused n 3))
    (wrote : (d : Done s plan words) → P (accepted (rounded_total (sheet_of s) (found (sheet_of s))))) where
  pub way_all : Way s plan words → P (plan_answer s plan words)
  way_all (faulty f a l w) = subst P (sym a) (fault f)
  way_all (few h l a b w) = subst P (sym a) (stop h 10 (omega arith))
  way_all (none h f a l) = subst P (sym a) (stop h.passes 11 (omega arith))
  way_all (short h c r a l) = subst P (sym a) (stop h.passes 12 (omega arith))
  way_all (written d) = subst P (sym d.answer) (wrote d)

-- so a faulty sheet is answered as the check answers it; else the option is 3, and the total 0 unless a plan was written
pub way_checked : {s plan words : List ℕ} → Way s plan words → CheckedFirst s (plan_answer s plan words)
way_checked {s} =
    way_all (CheckedFirst s) (λ f. record { faulty = λ _. refl; option = λ h. absurd (f h); total = λ _. checked_total s })
    (λ h n l. record { faulty = λ f. absurd (f h); option = λ _. refl; total = λ _. refl })
    (λ d. record { faulty = λ f. absurd (f d.ready.passes); option = λ _. refl; total = λ z. absurd (z refl) })
