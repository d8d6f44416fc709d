-- The rule of the table gives the factor at every row of every rate (`table_read`). Assumes nothing.
use Prim.Native.Nat.{ℕ, zero, suc, ◌+◌, ◌*◌, ◌≤◌, ◌<◌}
use mathlib.Core.Path.{◌≡◌, sym, ap, ◌∙◌}
use mathlib.Core.Bool.{true, false≢true}
use mathlib.Core.List.{List, [], ◌∷◌}
use mathlib.Core.Logic.Iff
use native.Mathlib.Nat.{not-suc-le-zero, le_of_suc-le-suc}
use native.Mathlib.Omega.{arith}
use lib.ListN.{get_or, drop}
use lib.Seq.{get_or-drop}
use Rattle.base.proofs.TestLaws.{eqb-iff, both_iff}
use Rattle.factors.specs.PresentWorth.{at_once, discounted, present_worth}
use Rattle.factors.proofs.PresentWorthLaws.{present_worth-zero, present_worth-suc}
use Rattle.yearbook.specs.Yearbook.{last_year, usual_rates, usual_rate}
use Rattle.yearbook.specs.Table.{are_steps, begin_with, hold_from}

-- behind the factor of a year come those of the years after it
steps_read :
    (rate n year a : ℕ) (xs : List ℕ) → a ≡ present_worth rate year → are_steps rate n a xs ≡ true
    → (y : ℕ) → y < n → get_or xs y 0 ≡ present_worth rate (suc year + y)
steps_read rate zero year a xs e t y l = absurd (not-suc-le-zero l)
steps_read rate (suc n) year a [] e t y l = absurd (false≢true t)
steps_read rate (suc n) year a (x ∷ xs) e t zero l =
    ((both_iff (eqb-iff x (discounted rate a)) Iff.rfl).0 t).0
    ∙ ap (discounted rate) e
    ∙ sym (present_worth-suc rate year)
    ∙ ap (present_worth rate) (omega arith)
steps_read rate (suc n) year a (x ∷ xs) e t (suc y) l =
    let h = (both_iff (eqb-iff x (discounted rate a)) Iff.rfl).0 t in
    let next = h.0 ∙ ap (discounted rate) e ∙ sym (present_worth-suc rate year) in
    steps_read rate n (suc year) x xs next h.1 y (le_of_suc-le-suc l) ∙ ap (present_worth rate) (omega arith)

-- one rate
rate_read : (rate : ℕ) (xs : List ℕ) → begin_with rate xs ≡ true → (year : ℕ) → year ≤ last_year → get_or xs year 0 ≡ present_worth rate year
rate_read rate [] t year l = absurd (false≢true t)
rate_read rate (x ∷ xs) t zero l = ((both_iff (eqb-iff x at_once) Iff.rfl).0 t).0 ∙ sym (present_worth-zero rate)
rate_read rate (x ∷ xs) t (suc year) l =
    let h = (both_iff (eqb-iff x at_once) Iff.rfl).0 t in
    steps_read rate last_year 0 x xs (h.0 ∙ sym (present_worth-zero rate)) h.1 year l ∙ ap (present_worth rate) (omega arith)

-- n rates from a place on
rates_read :
    (n place : ℕ) (xs : List ℕ) → hold_from n place xs ≡ true
    → (k year : ℕ) → k < n → year ≤ last_year → get_or xs (k * 301 + year) 0 ≡ present_worth (usual_rate (place + k)) year
rates_read zero place xs t k year l m = absurd (not-suc-le-zero l)
rates_read (suc n) place xs t zero year l m =
    let h = (both_iff {a = begin_with (usual_rate place) xs} Iff.rfl Iff.rfl).0 t in
    ap (λ (i : ℕ). get_or xs i 0) (omega arith)
    ∙ rate_read (usual_rate place) xs h.0 year m
    ∙ ap (λ (rate : ℕ). present_worth rate year) (omega arith)
rates_read (suc n) place xs t (suc k) year l m =
    let h = (both_iff {a = begin_with (usual_rate place) xs} Iff.rfl Iff.rfl).0 t in
    ap (λ (i : ℕ). get_or xs i 0) (omega arith)
    ∙ sym (get_or-drop 301 xs (k * 301 + year) 0)
    ∙ rates_read n (suc place) (drop 301 xs) h.1 k year (le_of_suc-le-suc l) m
    ∙ ap (λ (rate : ℕ). present_worth rate year) (omega arith)

-- what is looked up equals what is stepped, for every row of every rate
pub table_read :
    (xs : List ℕ) → hold_from usual_rates 0 xs ≡ true
    → (place year at : ℕ) → at ≡ place * 301 + year → place < usual_rates → year ≤ last_year
    → get_or xs at 0 ≡ present_worth (usual_rate place) year
table_read xs t place year at e l m =
    ap (λ (i : ℕ). get_or xs i 0) e
    ∙ rates_read usual_rates 0 xs t place year l m
    ∙ ap (λ (rate : ℕ). present_worth rate year) (omega arith)
