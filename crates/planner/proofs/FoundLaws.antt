-- What the code has found is the planned chain: how it begins, and the ends that were followed from there, as many as the chain has. So what is
-- answered, and what the buffer then holds, where it is too short for that many ends (`found_short`) and where it is long enough
-- (`found_fits`). And the lists that have been written hold what is read from them (`years_held`). Assumes nothing.
use Prim.Native.Nat.{ℕ, ◌≤◌, ◌<◌}
use mathlib.Core.Path.{◌≡◌, ap, sym, ◌∙◌}
use mathlib.Core.List.{List}
use native.Mathlib.Omega.{arith}
use lib.ListN.{length, get_or, take, drop}
use lib.Seq.{sets}
use Rattle.base.specs.Answer.{accepted, refused}
use Rattle.sheet.specs.Layout.{year_places}
use Rattle.sheet.specs.Sheet.{PlanningSheet}
use Rattle.sheet.specs.declared.Sheet.{Sheet}
use Rattle.sheet.proofs.ParsedLaws.{horizon_read}
use Rattle.choice.specs.Running.{Entry, no_total}
use Rattle.chain.specs.Chain.{Chain}
use Rattle.chain.specs.PlanBytes.{plan_size, encode}
use Rattle.tails.specs.Tail.{tail_from}
use Rattle.tails.specs.Writing.{AllWritten}
use Rattle.tails.proofs.WordLaws.{years_read}
use Rattle.front.specs.Planned.{planned}
use Rattle.front.specs.Front.{front, Held, Follows}
use Rattle.front.specs.declared.Front.{Front}
use Rattle.front.proofs.TakenLaws.{planned_begins}
use Rattle.planning.specs.Planning.{found}
use Rattle.planning.proofs.PlanningLaws.{SheetOutcome, planning_short, planning_fits}

module _ (p : PlanningSheet) (f : Front) (read : f ≡ front (planned p)) (there : f.total ≡ no_total → ⊥) (count : ℕ) (ends : List ℕ)
    (follows : Follows p f.j count ends) where
  pub found_read : record { i = f.i; j = f.j; ends = take count ends } ≡ found p
  found_read =
      let years = sym (planned_begins p f read there).goes in
      let i = ap (λ (ys : List ℕ). get_or ys 0 0) years in
      let j = ap (λ (ys : List ℕ). get_or ys 1 0) years in
      let rest = follows.1 ∙ ap (drop 2) years in
      λ k. record { i = i k; j = j k; ends = rest k }

  pub found_count : length (found p).ends ≡ count
  found_count = ap (λ (c : Chain). length c.ends) (sym found_read) ∙ ap length follows.1 ∙ sym follows.0

  there_planned : (planned p).total ≡ no_total → ⊥
  there_planned q = there (ap (λ (f : Front). f.total) read ∙ q)

  module _ (plan : List ℕ) where
    pub found_short : length plan < plan_size count → SheetOutcome p plan (refused 12 3) plan
    found_short short = planning_short p plan there_planned (omega (arith, found_count))

    pub found_fits :
        plan_size count ≤ length plan
        → SheetOutcome p plan (accepted f.total) (sets plan 0 (encode f.total (record { i = f.i; j = f.j; ends = take count ends })))
    found_fits room =
        let fits = planning_fits p plan there_planned (omega (arith, found_count)) in
        let total = ap (λ (f : Front). f.total) read in
        (ap accepted total ∙ fits.0, (λ k. sets plan 0 (encode (total k) (found_read k))) ∙ fits.1)

-- once they are written, a list has a figure of the replacements from each year: the words their totals, the first ends the end of the first
module _ (figure : Entry → ℕ) (s : Sheet) (far : s.horizon ≤ 300) (before after : List ℕ) (room : year_places ≤ length before)
    (written : AllWritten figure s before after) where
  pub years_held : length after ≡ length before → Held (λ p y. figure (tail_from p y)) (λ p y. y ≤ p.horizon) s after
  years_held same =
      record {
        room = omega arith;
        held = λ p read y l. rw (written p read) (years_read figure p before (omega (arith, horizon_read s p read)) y l);
      }
