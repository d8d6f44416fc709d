-- How many arcs are weighed. Of an option from a year, as many as the sheet offers, length 0 apart (`arcs_weighed`); so of a replacement
-- (`year_counted`). Those of no year (`counted_none`), of some years and then more (`counted_more`), of as many years from the same year
-- (`counted_same`), of all (`counted_all`); at most 120 a year (`counted_few`). Assumes nothing.
use Prim.Native.Nat.{ℕ, ◌+◌, ◌-◌, ◌*◌, ◌≤◌, ◌<◌}
use mathlib.Core.Path.{◌≡◌, ap, sym, subst, ◌∙◌}
use mathlib.Core.Bool.{Bool, true, cond}
use native.Mathlib.Omega.{arith}
use Rattle.base.specs.Tally.{sum_over}
use Rattle.base.proofs.TallyLaws.{sum-zero, sum_join, sum_one, sum_first, sum-le}
use Rattle.sheet.specs.Sheet.{PlanningSheet, replace}
use Rattle.sheet.specs.Parsed.{parsed}
use Rattle.sheet.specs.declared.Sheet.{Sheet}
use Rattle.sheet.proofs.ParsedLaws.{horizon_read}
use Rattle.checking.specs.Fit.{Fit, SheetFits}
use Rattle.costing.specs.Arc.{kept_of}
use Rattle.costing.specs.Offered.{placed, offered}
use Rattle.costing.specs.declared.Kept.{Kept}
use Rattle.costing.proofs.SheetArcLaws.{kept_read}
use Rattle.chain.specs.Counting.{arcs_from, replace_arcs}
use Rattle.chain.proofs.CountingLaws.{replace-arcs-le}
use Rattle.weighing.specs.Ends.{weighed_to}
use Rattle.weighing.proofs.SheetEndLaws.{ends_offered}
use Rattle.tails.specs.Writing.{YearsCounted}
use Rattle.tails.proofs.YearLaws.{replace-placed, not_at_once}

module _ (p : PlanningSheet) (s : Sheet) (read : s ≡ parsed p) where
  -- an option from year y, whose longer arcs within the horizon are well placed
  pub arcs_weighed :
      (option y : ℕ) {a : Kept} → option ≤ 2 → ((e : ℕ) → y < e → e ≤ p.horizon → placed p.horizon option y e ≡ true)
      → a ≡ kept_of s option y → cond (offered p option y y) 1 0 + weighed_to a s.horizon ≡ arcs_from p option y
  unfolding arcs_from
  arcs_weighed option y known well kept =
      let first = cond {A = ℕ} (offered p option y y) 1 0 in
      let longer =
      ap (λ (a : Kept). weighed_to a s.horizon) kept
      ∙ ap (weighed_to (kept_of s option y)) (horizon_read s p read)
      ∙ ends_offered p option y (kept_of s option y) (λ e. kept_read p option y e s read known) well in
      ap (λ (n : ℕ). first + n) longer ∙ sym (sum_first (λ e. cond (offered p option y e) 1 0) y (p.horizon - y))

-- of a replacement from year y
pub year_counted :
    (s : Sheet) (y : ℕ) {arcs : ℕ} {a : Kept} → arcs ≡ weighed_to a s.horizon → a ≡ kept_of s replace y → YearsCounted s y 1 arcs
year_counted s y counted kept p read =
    let none = ap (λ (flag : Bool). cond {A = ℕ} flag 1 0) (not_at_once p y) in
    omega
    (arith, counted, none, arcs_weighed p s read replace y (omega arith) (replace-placed p.horizon y) kept, sum_one (arcs_from p replace) y)

module _ (s : Sheet) where
  pub counted_none : (y n : ℕ) {arcs : ℕ} → n ≡ 0 → arcs ≡ 0 → YearsCounted s y n arcs
  counted_none y n empty none p read = none ∙ sym (sum-zero (arcs_from p replace) y) ∙ ap (sum_over (arcs_from p replace) y) (sym empty)

  -- those of n years, and of m years from the year z behind them
  pub counted_more :
      (y n z m all : ℕ) {first more arcs : ℕ} → z ≡ y + n → all ≡ n + m → YearsCounted s y n first → YearsCounted s z m more
      → arcs ≡ first + more → YearsCounted s y all arcs
  counted_more y n z m all next together first more sum p read =
      let later = more p read ∙ ap (λ (z : ℕ). sum_over (arcs_from p replace) z m) next in
      sum
      ∙ (λ i. first p read i + later i)
      ∙ sym (sum_join (arcs_from p replace) y n m)
      ∙ ap (sum_over (arcs_from p replace) y) (sym together)

  pub counted_same : (y n z m : ℕ) {arcs : ℕ} → y ≡ z → n ≡ m → YearsCounted s y n arcs → YearsCounted s z m arcs
  counted_same y n z m from many counted p read = counted p read ∙ (λ i. sum_over (arcs_from p replace) (from i) (many i))

  pub counted_all : {arcs : ℕ} → YearsCounted s 0 s.horizon arcs → (p : PlanningSheet) → s ≡ parsed p → arcs ≡ replace_arcs p
  unfolding replace_arcs
  counted_all counted p read = counted p read ∙ ap (sum_over (arcs_from p replace) 0) (horizon_read s p read)

  pub counted_few : SheetFits s → (y n : ℕ) {arcs : ℕ} → YearsCounted s y n arcs → arcs ≤ n * 120
  counted_few some y n counted =
      let p = some.sheet in
      omega (
        arith,
        counted p some.read,
        sum-le (arcs_from p replace) y 120 n (λ e l m. replace-arcs-le p (subst Fit some.read some.fit) e),
      )
