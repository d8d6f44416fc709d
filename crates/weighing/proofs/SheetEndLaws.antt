-- What is lent with a sheet is what walking the arcs of an option asks (`lent_walks`), and the choice of an end on the terms of an option is the
-- one that the rules give, for any option and entries behind the ends (`ends_over`), among as many as the sheet offers (`ends_offered`): an arc costs what is paid up to its end and what ending there
-- adds (`cost_removed`, `cost_kept`). That is one payment at most (`adds_le`), nothing at T (`adds_last`), and lent before T (`adds_read`).
-- Assumes nothing.
use Prim.Native.Nat.{ℕ, suc, ◌+◌, ◌-◌, ◌≤◌, ◌<◌}
use mathlib.Core.Path.{◌≡◌, refl, ap, sym, ◌∙◌}
use mathlib.Core.List.{List}
use mathlib.Core.Bool.{true, false, cond, ◌&&◌, or-false}
use native.Mathlib.Numerals.{add-one}
use native.Mathlib.Omega.{arith}
use lib.Dec.{leb, ltb}
use borrow.Author.Tests.{le-leb, ne_eqb, lt-ltb, le-ltb}
use Rattle.base.specs.Tally.{how_many}
use Rattle.base.proofs.TestLaws.{by_test}
use Rattle.base.proofs.TallyLaws.{sum_same}
use Rattle.sheet.specs.Sheet.{PlanningSheet}
use Rattle.sheet.specs.Parsed.{terms_of, parsed}
use Rattle.sheet.specs.declared.Sheet.{Sheet}
use Rattle.division.specs.declared.Divisor.{Divisor}
use Rattle.sheet.proofs.ParsedLaws.{horizon_read}
use Rattle.checking.specs.Fit.{Fit}
use Rattle.steps.specs.Payment.{rounded}
use Rattle.steps.specs.Fit.{largest_payment, Divides}
use Rattle.costing.specs.Arc.{pays_removal, kept_of, arc_of, paid, removal, closing, worth, cost_to}
use Rattle.costing.specs.Offered.{placed, length_offered, offered}
use Rattle.costing.specs.Fit.{KeptFits}
use Rattle.costing.specs.declared.Kept.{Kept}
use Rattle.costing.proofs.SumLaws.{paid_if-false, paid_if-cond}
use Rattle.costing.proofs.SizeLaws.{removal-le}
use Rattle.costing.proofs.SheetArcLaws.{kept_read, cost_whole, kept_fits}
use Rattle.costing.proofs.OfferedLaws.{offered_in}
use Rattle.choice.specs.Running.{Entry, entries, over_ends}
use Rattle.choice.proofs.RunningLaws.{over_same}
use Rattle.streams.specs.Streams.{removal_on, StreamsOf, Lent}
use Rattle.weighing.specs.Best.{in_short, numbers}
use Rattle.weighing.specs.Ends.{may_end, kept_cost, weighed_to, Walks}
use Rattle.weighing.specs.Ahead.{Ahead, end_adds, adds_at}
use Rattle.weighing.proofs.BestLaws.{over_in_short}

-- what is lent with a sheet for an option is what walking its arcs asks
pub lent_walks :
    (s : Sheet) (d : Divisor) (option y : ℕ) (streams ages : List ℕ) → KeptFits (kept_of s option y) → Divides d s.discount → y ≤ s.horizon
    → Lent s option streams ages → Walks (kept_of s option y) d s.horizon streams ages
lent_walks s d option y streams ages fits divides early lent =
    record { steps = record { fits = fits; divides = divides }; ages = lent.1; paid = lent.0; power = lent.2 y early }

-- a length of a year or more lies between the two lives
length_some :
    (shortest longest option n : ℕ) → 1 ≤ n → length_offered shortest longest option n ≡ leb shortest n && leb n longest
length_some shortest longest option n some =
    rw (le-leb 1 n some, ne_eqb n 0 (λ e. omega arith)) (or-false (leb shortest n && leb n longest))

module _ (p : PlanningSheet) (option y : ℕ) (a : Kept) (read : (e : ℕ) → a ≡ (arc_of p option y e).kept) where
  from_read : a.from ≡ y
  unfolding arc_of
  from_read = ap (λ (k : Kept). k.from) (read y)

  shortest_read : a.terms.shortest ≡ (p.option option).shortest
  unfolding arc_of terms_of
  shortest_read = ap (λ (k : Kept). k.terms.shortest) (read y)

  longest_read : a.terms.longest ≡ (p.option option).longest
  unfolding arc_of terms_of
  longest_read = ap (λ (k : Kept). k.terms.longest) (read y)

  -- what an arc costs is what is paid up to its end, with what ending there adds; maintaining adds nothing
  pub cost_removed : (e : ℕ) → pays_removal option ≡ true → y < e → kept_cost a e + adds_at p option e ≡ cost_to p option y e
  unfolding closing end_adds removal arc_of
  cost_removed e pays late =
      let end : a.from + (e - y) ≡ e = omega (arith, from_read) in
      let adds : worth a (closing a true (e - y) p.horizon) ≡ adds_at p option e =
      rw (lt-ltb 0 (e - y) (omega arith), end)
      (paid_if-cond (rounded a.discount) (ltb e p.horizon) (removal a e) ∙ ap (λ (k : Kept). end_adds k p.horizon e) (read e)) in
      let more = sym adds in
      (λ i. worth a (paid a (e - from_read i)) + more i) ∙ cost_whole p option y e (read e) (sym pays) refl

  pub cost_kept : (e : ℕ) → pays_removal option ≡ false → kept_cost a e + 0 ≡ cost_to p option y e
  unfolding closing
  cost_kept e none =
      let nothing : worth a (closing a false (e - y) p.horizon) ≡ 0 = paid_if-false (rounded a.discount) (removal a (a.from + (e - y))) in
      let more = sym nothing in
      (λ i. worth a (paid a (e - from_read i)) + more i) ∙ cost_whole p option y e (read e) (sym none) refl

  end_offered : (e : ℕ) → placed p.horizon option y e ≡ true → y < e → may_end a e ≡ offered p option y e
  end_offered e well late =
      rw (from_read, shortest_read, longest_read)
      (sym
      (offered_in p option y e well ∙ length_some (p.option option).shortest (p.option option).longest option (e - y) (omega arith)))

  -- as many are weighed as the sheet offers
  pub ends_offered :
      ((e : ℕ) → y < e → e ≤ p.horizon → placed p.horizon option y e ≡ true)
      → weighed_to a p.horizon ≡ how_many (offered p option y) (suc y) (p.horizon - y)
  ends_offered well =
      let n = p.horizon - y in
      (λ i. how_many (may_end a) (from_read i + 1) (p.horizon - from_read i))
      ∙ sum_same (λ e. cond (may_end a e) 1 0) (λ e. cond (offered p option y e) 1 0) (y + 1) n
      (λ e l m. rw (end_offered e (well e (omega arith) (omega arith)) (omega arith)))
      ∙ ap (λ (first : ℕ). how_many (offered p option y) first n) (add-one y)

  -- by words that have the totals of the entries behind the ends that are offered, with what ending there adds
  pub ends_over :
      (words more : ℕ → ℕ) (behind : ℕ → Entry) (best : Entry) → ((e : ℕ) → y < e → e ≤ p.horizon → placed p.horizon option y e ≡ true)
      → ((e : ℕ) → y < e → kept_cost a e + more e ≡ cost_to p option y e)
      → ((e : ℕ) → y < e → e ≤ p.horizon → offered p option y e ≡ true → Ahead (words e) (more e) (behind e))
      → over_ends numbers (may_end a) (kept_cost a) words (y + 1) (in_short best) (p.horizon - y)
      ≡ in_short (over_ends entries (offered p option y) (cost_to p option y) behind (y + 1) best (p.horizon - y))
  ends_over words more behind best well costs held =
      let n = p.horizon - y in
      over_in_short (may_end a) (kept_cost a) more words behind (y + 1) best n
      (λ e l m on. held e (omega arith) (omega arith) (sym (end_offered e (well e (omega arith) (omega arith)) (omega arith)) ∙ on))
      ∙ ap in_short
      (over_same entries (may_end a) (offered p option y) (λ e. kept_cost a e + more e) (cost_to p option y) behind behind (y + 1) best n
      (λ e l m. end_offered e (well e (omega arith) (omega arith)) (omega arith)) (λ e l m on. costs e (omega arith)) (λ e l m on. refl))

-- of a sheet that passes the checks: what ending an option adds is one payment at most
pub adds_le : (p : PlanningSheet) → Fit (parsed p) → (option : ℕ) → option ≤ 2 → (e : ℕ) → adds_at p option e ≤ largest_payment
unfolding end_adds
adds_le p fit option known e =
    by_test (ltb e p.horizon) (λ t. rw t (removal-le (arc_of p option 0 0).kept (kept_fits p option 0 0 fit known (omega arith)) e))
    (λ t. rw t (omega arith))

-- at T nothing is added, and before T what the stream of removal has
pub adds_last : (p : PlanningSheet) (option : ℕ) → adds_at p option p.horizon ≡ 0
unfolding end_adds
adds_last p option = rw (le-ltb p.horizon p.horizon (omega arith))

pub adds_read :
    (p : PlanningSheet) (s : Sheet) → s ≡ parsed p → (option : ℕ) → option ≤ 2 → (streams : List ℕ) → StreamsOf s option streams
    → (e : ℕ) → e < s.horizon → removal_on streams e ≡ adds_at p option e
unfolding end_adds removal
adds_read p s read option known streams lent e early =
    let before : e < p.horizon = omega (arith, horizon_read s p read) in
    rw (lt-ltb e p.horizon before)
    (lent.removal e (omega arith) ∙ ap (λ (k : Kept). rounded k.discount (removal k e)) (kept_read p option 0 0 s read known))
