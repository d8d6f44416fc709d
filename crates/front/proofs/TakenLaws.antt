-- Where a choice has a total, it has taken an offered end and the entry behind it (`best_taken`): so the chosen replacements from a year go
-- on from their first end (`tail_next`), and the planned chain begins with maintaining, renovating and the replacements from there
-- (`planned-front`, `planned_begins`), and i has a place (`planned_inside`).
-- Where it has no total there is no front (`front_none`, `none_left`), else its own (`front_some`, `some_found`). Assumes nothing.
use Prim.Native.Nat.{ℕ, suc, ◌-◌, ◌≤◌, ◌<◌}
use mathlib.Core.Path.{◌≡◌, refl, ap, sym, subst, ◌∙◌}
use mathlib.Core.Bool.{true}
use mathlib.Core.List.{List, [], ◌∷◌}
use mathlib.Core.Logic.{⊎_elim}
use native.Mathlib.Omega.{arith}
use lib.ListN.{get_or}
use lib.Dec.{eqb}
use borrow.Author.Tests.{eqb-true, eqb-false, eq-eqb, ne_eqb}
use Rattle.std.specs.Prelude.{Some, None}
use Rattle.base.specs.Lists.{first_of}
use Rattle.base.proofs.TestLaws.{by_test}
use Rattle.sheet.specs.Sheet.{PlanningSheet, maintain, renovate, replace}
use Rattle.sheet.specs.Parsed.{parsed}
use Rattle.sheet.specs.declared.Sheet.{Sheet}
use Rattle.sheet.proofs.ParsedLaws.{horizon_read}
use Rattle.checking.specs.Fit.{SheetFits}
use Rattle.costing.specs.Arc.{cost_to}
use Rattle.costing.specs.Offered.{offered}
use Rattle.costing.proofs.OfferedLaws.{offered-iff}
use Rattle.choice.specs.Running.{Entry, no_total, no_entry}
use Rattle.choice.proofs.RunningLaws.{over_taken}
use Rattle.chain.proofs.FeasibleLaws.{replace_forward}
use Rattle.weighing.specs.Best.{in_short}
use Rattle.weighing.specs.declared.Best.{Best}
use Rattle.tails.specs.Tail.{best_end, tail_from}
use Rattle.tails.proofs.TailLaws.{tail_step}
use Rattle.front.specs.Planned.{renovated, planned}
use Rattle.front.specs.Front.{front, front_of}
use Rattle.front.specs.declared.Front.{Front}

-- the end that a choice has taken: it is offered, there is an entry behind it, and the list goes on as that entry does
pub record Taken (p : PlanningSheet) (option y : ℕ) (behind : ℕ → Entry) (ends : List ℕ) : Type 0 where
  pub end : ℕ
  pub on : offered p option y end ≡ true
  pub there : (behind end).total ≡ no_total → ⊥
  pub goes : ends ≡ end ∷ (behind end).ends

first_read : (xs : List ℕ) → first_of xs ≡ get_or xs 0 0
first_read [] = refl
first_read (x ∷ xs) = refl

module _ (p : PlanningSheet) where
  best_taken :
      (option y : ℕ) (behind : ℕ → Entry) → ((best_end p option behind y).total ≡ no_total → ⊥)
      → Taken p option y behind (best_end p option behind y).ends
  unfolding best_end
  best_taken option y behind there =
      ⊎_elim (λ same. absurd (there (ap (λ (t : Entry). t.total) same)))
      (λ h. record { end = h.0; on = h.1.on; there = h.1.there; goes = ap (λ (t : Entry). t.ends) h.1.taken })
      (over_taken (offered p option y) (cost_to p option y) behind y no_entry (suc (p.horizon - y)))

  -- the first end of the chosen replacements from y, and what follows it
  pub record Next (y e : ℕ) : Type 0 where
    pub later : y < e
    pub inside : e ≤ p.horizon
    pub there : (tail_from p e).total ≡ no_total → ⊥
    pub rest : (tail_from p y).ends ≡ e ∷ (tail_from p e).ends

  pub tail_next : (y e : ℕ) → y < p.horizon → ((tail_from p y).total ≡ no_total → ⊥) → e ≡ first_of (tail_from p y).ends → Next y e
  tail_next y e early there first =
      let step = tail_step p y early in
      let t = best_taken replace y (tail_from p) (subst (λ (t : Entry). t.total ≡ no_total → ⊥) step there) in
      let goes = ap (λ (t : Entry). t.ends) step ∙ t.goes in
      let same : t.end ≡ e = sym (first ∙ ap first_of goes) in
      let o = (offered-iff p replace y t.end).0 t.on in
      subst (Next y) same (record { later = replace_forward p y t.end o; inside = o.inside; there = t.there; rest = goes })

  -- the choice of maintaining, and of renovating behind it
  planned_taken : ((planned p).total ≡ no_total → ⊥) → Taken p maintain 0 (renovated p) (planned p).ends
  unfolding planned
  planned_taken = best_taken maintain 0 (renovated p)

  renovated_taken : (i : ℕ) → ((renovated p i).total ≡ no_total → ⊥) → Taken p renovate i (tail_from p) (renovated p i).ends
  unfolding renovated
  renovated_taken i = best_taken renovate i (tail_from p)

  -- i is the end of maintaining, j that of renovating from i
  pub planned-front :
      (best : Best) → best ≡ in_short (planned p) → (best.total ≡ no_total → ⊥)
      → (offered p maintain 0 best.end ≡ true)
      × ((j : ℕ) → j ≡ first_of (renovated p best.end).ends → record { total = best.total; i = best.end; j = j } ≡ front (planned p))
  planned-front best read there =
      let total = ap (λ (b : Best). b.total) read in
      let t = planned_taken (λ q. there (total ∙ q)) in
      let i : best.end ≡ t.end = ap (λ (b : Best). b.end) read ∙ ap first_of t.goes in
      let ends = t.goes ∙ ap (λ (i : ℕ). i ∷ (renovated p i).ends) (sym i) in (
        rw i t.on,
        λ j end.
            let first = ap (λ (xs : List ℕ). get_or xs 0 0) (sym ends) in
            let second = end ∙ first_read (renovated p best.end).ends ∙ ap (λ (xs : List ℕ). get_or xs 1 0) (sym ends) in
            λ k. record { total = total k; i = first k; j = second k },
      )

  -- the planned chain begins with i and j and goes on with the replacements from j
  pub record Begins (i j : ℕ) : Type 0 where
    pub inside : j ≤ p.horizon
    pub there : (tail_from p j).total ≡ no_total → ⊥
    pub goes : (planned p).ends ≡ i ∷ j ∷ (tail_from p j).ends

  pub planned_begins : (f : Front) → f ≡ front (planned p) → (f.total ≡ no_total → ⊥) → Begins f.i f.j
  planned_begins f read there =
      let t = planned_taken (λ q. there (ap (λ (f : Front). f.total) read ∙ q)) in
      let u = renovated_taken t.end t.there in
      let ends = t.goes ∙ ap (λ (ks : List ℕ). t.end ∷ ks) u.goes in
      let i : t.end ≡ f.i = sym (ap (λ (f : Front). f.i) read ∙ ap (λ (xs : List ℕ). get_or xs 0 0) ends) in
      let j : u.end ≡ f.j = sym (ap (λ (f : Front). f.j) read ∙ ap (λ (xs : List ℕ). get_or xs 1 0) ends) in
      let inside = ((offered-iff p renovate t.end u.end).0 u.on).inside in
      subst (Begins f.i) j
      (subst (λ (i : ℕ). Begins i u.end) i (record { inside = inside; there = u.there; goes = ends }))

-- of a sheet that passes the checks
pub planned_inside :
    (s : Sheet) → SheetFits s → (best : Best) → ((p : PlanningSheet) → s ≡ parsed p → best ≡ in_short (planned p))
    → (best.total ≡ no_total → ⊥) → best.end ≤ 300
planned_inside s some best read there =
    let p = some.sheet in
    let o = (offered-iff p maintain 0 best.end).0 (planned-front p best (read p some.read) there).0 in
    omega (arith, o.inside, horizon_read s p some.read, some.fit.horizon_high)

-- where there is no total, there is no front, and else it is that of the entry
module _ (t : Entry) where
  pub front_none : t.total ≡ no_total → None ≡ front_of t
  front_none none = rw (eq-eqb t.total no_total none)

  pub front_some : (t.total ≡ no_total → ⊥) → Some (front t) ≡ front_of t
  front_some there = rw (ne_eqb t.total no_total there)

  pub none_left : None ≡ front_of t → t.total ≡ no_total
  none_left none = by_test (eqb t.total no_total) (eqb-true t.total no_total) (λ off. let some = none ∙ sym (front_some (eqb-false t.total no_total off)) in cc)

  pub some_found : (f : Front) → Some f ≡ front_of t → (f ≡ front t) × (f.total ≡ no_total → ⊥)
  some_found f some =
      by_test (eqb t.total no_total) (λ on. let none = some ∙ sym (front_none (eqb-true t.total no_total on)) in absurd (cc))
      (λ off.
      let there = eqb-false t.total no_total off in
      let both = some ∙ sym (front_some there) in
      let same : f ≡ front t = cc in
      (same, λ q. there (ap (λ (f : Front). f.total) (sym same) ∙ q)))
