-- What `budget_answer` answers and what the lists then hold: the four ways in which `budget` ends, each with its promises (`refused_ended`,
-- `high_ended`, `short_ended`, `written_ended`); and the range of the answer (`budget_number_le`, `budget_packs`). Assumes nothing.
use Prim.Native.Nat.{ℕ, suc, ◌+◌, ◌≤◌, ◌<◌}
use mathlib.Core.Path.{◌≡◌, refl, ap, sym, subst, ◌∙◌}
use mathlib.Core.List.{List}
use mathlib.Core.Bool.{true, false, false≢true}
use mathlib.Core.Logic.{◌↔◌, ◌⊎◌, inl, inr, ⊎_elim}
use native.Mathlib.Omega.{arith}
use lib.Dec.{leb, ltb}
use lib.ListN.{length, get_or, take}
use lib.Seq.{sets, length-sets}
use borrow.Author.Tests.{ltb-true, ltb-false, le-leb, lt-leb, eq-eqb, ne_eqb}
use Rattle.base.specs.Lists.{listed}
use Rattle.base.specs.Answer.{accepted, refused, answered, ◌unless◌else◌, ◌or_else◌, Packs}
use Rattle.base.specs.declared.Answer.{Answer}
use Rattle.base.proofs.TestLaws.{by_test, ltb_iff, both_iff}
use Rattle.base.proofs.ListsLaws.{length-listed}
use Rattle.base.proofs.StoreLaws.{written_first, written_behind}
use Rattle.base.proofs.AnswerLaws.{or_else_pass, or_else_stop, or_else_all, unless_pass, unless_stop, unless_le, answered_all, accepted_packs, refused_packs}
use Rattle.sheet.specs.Sheet.{sheet_of}
use Rattle.checking.proofs.FitLaws.{fit}
use Rattle.chain.specs.PlanBytes.{decode}
use Rattle.pricing.specs.Pricing.{priced, PricedAt}
use Rattle.pricing.proofs.PriceLaws.{accepted-iff, priced-accepted, priced_option, priced_total, priced_number_le, priced_packs}
use Rattle.budget.specs.Budget.{units_in, units_of, cents_in, last_in_cents, cents_of, roomy, budget_number, budget_answer, units_after, cents_after}
use Rattle.budget.specs.Promises.{Priced, units_needed, PricedFirst, RefusedFifteen, RefusedSixteen, AcceptedAt, AddsUp, LeavesBehind, PromisedBudget}
use Rattle.budget.proofs.AddsLaws.{sum, units-add}

-- both lists are long enough, or one is not
pub roomy_long : (T u c : ℕ) → roomy T u c ≡ true → (T < u) × (last_in_cents T < c)
roomy_long T u c e = (both_iff (ltb_iff T u) (ltb_iff (last_in_cents T) c)).0 e

roomy_short : (T u c : ℕ) → roomy T u c ≡ false → (u < T + 1) ⊎ (c < last_in_cents T + 1)
roomy_short T u c e =
    by_test (ltb T u)
    (λ t.
    by_test (ltb (last_in_cents T) c)
    (λ v. absurd (false≢true (sym e ∙ (both_iff (ltb_iff T u) (ltb_iff (last_in_cents T) c)).1 (ltb-true T u t, ltb-true (last_in_cents T) c v))))
    (λ v. inr (let l = ltb-false (last_in_cents T) c v in omega arith)))
    (λ t. inl (let l = ltb-false T u t in omega arith))

-- the words of a list that is given by its index, written to the front of another: they are read there, and behind them the old ones
module _ (old : List ℕ) (n : ℕ) (f : ℕ → ℕ) (long : n ≤ length old) where
  listed_first : take n (sets old 0 (listed n f)) ≡ listed n f
  listed_first =
      let e = length-listed n f in
      subst (λ (k : ℕ). take k (sets old 0 (listed n f)) ≡ listed n f) e (written_first old (listed n f) (omega (arith, e)))

  listed_behind : (y : ℕ) → n ≤ y → get_or (sets old 0 (listed n f)) y 0 ≡ get_or old y 0
  listed_behind y l = let e = length-listed n f in written_behind old (listed n f) (omega (arith, e)) y (omega (arith, e))

-- how a call ended: what it answered, the lists that it left, and what is promised
abbrev pub Ended : (s plan : List ℕ) (general : ℕ) (units cents : List ℕ) → Answer → (units' cents' : List ℕ) → Type 0
Ended s plan general units cents b units' cents' =
    (b ≡ budget_answer s plan general units cents)
    × ((units' ≡ units_after s plan general units cents)
    × ((cents' ≡ cents_after s plan general units cents) × PromisedBudget s plan general units cents b units' cents'))

module _ (s plan : List ℕ) (general : ℕ) (units cents : List ℕ) where
  abbrev T : ℕ
  T = (sheet_of s).horizon

  abbrev own : ℕ
  own = budget_number T general (length units) (length cents)

  -- a refusal: the lists are left, and nothing is promised of their sum
  module _ (b : Answer) (is : b ≡ budget_answer s plan general units cents) (d : b.number ≡ 0 → ⊥) where
    lists_left : (units ≡ units_after s plan general units cents) × (cents ≡ cents_after s plan general units cents)
    unfolding units_after cents_after
    lists_left =
        let n = ne_eqb (budget_answer s plan general units cents).number 0 (λ z. d (ap (λ (x : Answer). x.number) is ∙ z)) in
        (rw n refl, rw n refl)

    adds_none : AddsUp s plan b units
    adds_none = record { sum = λ z. absurd (d z); total = λ z. absurd (d z) }

    leaves_all : LeavesBehind s b.number units cents units cents
    leaves_all = record { left = λ z. (refl, refl); units_behind = λ y l. refl; cents_behind = λ y l. refl; lengths = (refl, refl) }

    refusal_ended :
        PricedFirst s plan b → RefusedFifteen s plan general b.number → RefusedSixteen s plan general units cents b.number
        → AcceptedAt s plan general units cents b → Ended s plan general units cents b units cents
    refusal_ended first fifteen sixteen taken =
        let promised : PromisedBudget s plan general units cents b units cents =
        record { first = first; fifteen = fifteen; sixteen = sixteen; accepted = taken; adds = adds_none; left = leaves_all } in
        (is, (lists_left.0, (lists_left.1, promised)))

  -- `a` is what pricing answered
  module _ (a : Answer) (answer : a ≡ priced s plan) (iff : (t : ℕ) → ((a.number ≡ 0) × (a.total ≡ t)) ↔ PricedAt s plan t) where
    small : a.number ≤ 14
    small = subst (λ (x : Answer). x.number ≤ 14) (sym answer) (priced_number_le s plan)

    pub refused_ended : (a.number ≡ 0 → ⊥) → Ended s plan general units cents a units cents
    unfolding budget_answer
    refused_ended d =
        let no : (priced s plan).number ≡ 0 → ⊥ = λ z. d (ap (λ (x : Answer). x.number) answer ∙ z) in
        let out : Priced s plan → ⊥ = λ h. d ((iff h.0).1 h.1).0 in
        refusal_ended a (answer ∙ sym (or_else_stop (priced s plan) _ no)) d
        (record {
          faulty = λ _. answer;
          option = λ h. ap (λ (x : Answer). x.option) answer ∙ priced_option s plan h;
          total = λ _. ap (λ (x : Answer). x.total) answer ∙ priced_total s plan no;
        })
        (λ z. absurd (omega (arith, small)), λ h. absurd (out h.0))
        (λ z. absurd (omega (arith, small)), λ h. absurd (out h.0))
        (λ t. (λ z. absurd (d z.0), λ h. absurd (out (t, h.0))))

    module _ (zero : a.number ≡ 0) where
      is_priced : Priced s plan
      is_priced = (a.total, (iff a.total).0 (zero, refl))

      -- behind pricing, what the call's own rules say
      owned : budget_answer s plan general units cents ≡ (answered own 3 or_else priced s plan)
      unfolding budget_answer
      owned = or_else_pass (priced s plan) _ (ap (λ (x : Answer). x.number) (sym answer) ∙ zero)

      -- a refusal of its own
      own_first : (n : ℕ) (b : Answer) → b ≡ refused n 3 → PricedFirst s plan b
      own_first n b is =
          record {
            faulty = λ out. absurd (out is_priced);
            option = λ h. ap (λ (x : Answer). x.option) is;
            total = λ d. ap (λ (x : Answer). x.total) is;
          }

      pub high_ended : (b : Answer) → b ≡ refused 15 3 → 50_000 < general → Ended s plan general units cents b units cents
      unfolding budget_number
      high_ended b is high =
          let n : own ≡ 15 = unless_stop 15 _ (lt-leb general 50_000 high) in
          let e : b ≡ budget_answer s plan general units cents = is ∙ sym (owned ∙ rw n) in
          let number : b.number ≡ 15 = ap (λ (x : Answer). x.number) is in
          let d : b.number ≡ 0 → ⊥ = λ z. omega arith in
          refusal_ended b e d (own_first 15 b is)
          (λ z. (is_priced, high), λ h. number)
          (λ z. absurd (omega arith), λ h. absurd (let l = h.1 in omega arith))
          (λ t. (λ z. absurd (d z.0), λ h. absurd (let l = h.1 in omega arith)))

      module _ (fair : general ≤ 50_000) where
        pub short_ended :
            (b : Answer) → b ≡ refused 16 3 → roomy T (length units) (length cents) ≡ false → Ended s plan general units cents b units cents
        unfolding budget_number
        short_ended b is short =
            let n : own ≡ 16 = unless_pass 15 _ (le-leb general 50_000 fair) ∙ unless_stop 16 _ short in
            let e : b ≡ budget_answer s plan general units cents = is ∙ sym (owned ∙ rw n) in
            let number : b.number ≡ 16 = ap (λ (x : Answer). x.number) is in
            let d : b.number ≡ 0 → ⊥ = λ z. omega arith in
            let some = roomy_short T (length units) (length cents) short in
            refusal_ended b e d (own_first 16 b is)
            (λ z. absurd (omega arith), λ h. absurd (let l = h.1 in omega arith))
            (λ z. (is_priced, fair, ⊎_elim (λ k. inl (omega arith)) (λ k. inr (omega arith)) some), λ h. number)
            (λ t. (
              λ z. absurd (d z.0),
              λ h. absurd (let l = h.2 in let m = h.3 in ⊎_elim (λ k. omega arith) (λ k. omega arith) some),
            ))

        -- both lists are written
        module _ (units' cents' : List ℕ) (long : roomy T (length units) (length cents) ≡ true)
            (wrote : units' ≡ sets units 0 (units_of (sheet_of s) (decode plan)))
            (coined : cents' ≡ sets cents 0 (cents_of (sheet_of s) general (decode plan))) where
          answer-accepted : a ≡ budget_answer s plan general units cents
          unfolding budget_number
          answer-accepted =
              let n : own ≡ 0 = unless_pass 15 _ (le-leb general 50_000 fair) ∙ unless_pass 16 _ long in
              answer ∙ sym (owned ∙ rw n refl)

          lists_written : (units' ≡ units_after s plan general units cents) × (cents' ≡ cents_after s plan general units cents)
          unfolding units_after cents_after
          lists_written =
              let n = eq-eqb (budget_answer s plan general units cents).number 0 (ap (λ (x : Answer). x.number) (sym answer-accepted) ∙ zero) in
              (wrote ∙ rw n refl, coined ∙ rw n refl)

          room : (T < length units) × (last_in_cents T < length cents)
          room = roomy_long T (length units) (length cents) long

          words_add : {n : ℕ} → n ≡ suc T → sum (take n units') ≡ a.total
          unfolding units_of
          words_add all =
              let z = ap (λ (x : Answer). x.number) (sym answer) ∙ zero in
              let h = (accepted-iff s plan).0 z in
              ap (λ (k : ℕ). sum (take k units')) all
              ∙ ap (λ (l : List ℕ). sum (take (suc T) l)) wrote
              ∙ ap sum (listed_first units (suc T) (units_in (sheet_of s) (decode plan)) room.0)
              ∙ units-add (sheet_of s) (fit s h.0) (decode plan) h.1.1
              ∙ ap (λ (x : Answer). x.total) (sym (answer ∙ priced-accepted s plan z))

          leaves_behind : LeavesBehind s a.number units cents units' cents'
          unfolding units_of cents_of
          leaves_behind =
              let f = units_in (sheet_of s) (decode plan) in
              let g = cents_in (sheet_of s) general (decode plan) in
              record {
                left = λ d. absurd (d zero);
                units_behind = λ y l. ap (λ (k : List ℕ). get_or k y 0) wrote ∙ listed_behind units (suc T) f room.0 y (omega arith);
                cents_behind = λ y l. ap (λ (k : List ℕ). get_or k y 0) coined ∙ listed_behind cents (suc (last_in_cents T)) g room.1 y (omega arith);
                lengths = (
                  ap length wrote ∙ length-sets units 0 (listed (suc T) f),
                  ap length coined ∙ length-sets cents 0 (listed (suc (last_in_cents T)) g),
                );
              }

          pub written_ended : Ended s plan general units cents a units' cents'
          written_ended =
              let lists = lists_written in
              let w = room in
              let u = w.0 in
              let v = w.1 in
              let promised : PromisedBudget s plan general units cents a units' cents' =
              record {
                first = record {
                  faulty = λ out. absurd (out is_priced);
                  option = λ h. ap (λ (x : Answer). x.option) answer ∙ priced_option s plan h;
                  total = λ d. absurd (d zero);
                };
                fifteen = (λ z. absurd (omega arith), λ h. absurd (let l = h.1 in omega arith));
                sixteen = (λ z. absurd (omega arith), λ h. absurd (⊎_elim (λ k. omega arith) (λ k. omega arith) h.2));
                accepted = λ t. (λ z. ((iff t).0 z, fair, omega arith, omega arith), λ h. (iff t).1 h.0);
                adds = record { sum = λ _. words_add {n = units_needed s} (omega arith); total = λ _. answer };
                left = leaves_behind;
              } in
              (answer-accepted, (lists.0, (lists.1, promised)))

  -- the range of the answer, and what a C form has room for
  own-le : own ≤ 16
  unfolding budget_number
  own-le =
      unless_le 15 (leb general 50_000) (16 unless roomy T (length units) (length cents) else 0) 16 (omega arith)
      (unless_le 16 (roomy T (length units) (length cents)) 0 16 (omega arith) (omega arith))

  -- what holds of pricing's answer, of no refusal and of 15 and 16 holds of the call's
  budget_all :
      (P : Answer → Type 0) → P (priced s plan) → P (accepted 0) → ((n : ℕ) → n ≤ 16 → P (refused n 3)) → P (budget_answer s plan general units cents)
  unfolding budget_answer
  budget_all P p a r =
      or_else_all P (priced s plan) (answered own 3 or_else priced s plan) p
      (or_else_all P (answered own 3) (priced s plan) (answered_all P own 3 a (λ d. r own own-le)) p)

  pub budget_number_le : (budget_answer s plan general units cents).number ≤ 16
  budget_number_le = budget_all (λ (x : Answer). x.number ≤ 16) (omega (arith, priced_number_le s plan)) (omega arith) (λ n h. h)

  pub budget_packs : Packs (budget_answer s plan general units cents)
  budget_packs = budget_all Packs (priced_packs s plan) (accepted_packs 0 (omega arith)) (λ n h. refused_packs n (omega arith) 3 (omega arith))
