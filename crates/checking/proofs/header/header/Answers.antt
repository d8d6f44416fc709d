-- A sheet is refused as the first of 1 to 4, row by row. Assumes nothing.
use Prim.Native.Nat.{ℕ}
use mathlib.Core.Path.{◌≡◌, sym, ap, ◌∙◌}
use mathlib.Core.List.{List}
use mathlib.Core.Bool.{Bool, true, false, ◌&&◌}
use native.Mathlib.Omega.{arith}
use lib.ListN.{length}
use borrow.Author.Tests.{le-leb, lt-leb}
use Rattle.base.specs.Answer.{answered}
use Rattle.base.specs.Numbers.{u16_at}
use Rattle.sheet.specs.Layout.{length_ok}
use Rattle.sheet.specs.Sheet.{sheet_of}
use Rattle.sheet.proofs.LayoutLaws.{sized}
use Rattle.checking.specs.Refusals.{mark_ok, version_ok, horizon_ok, header_number}
use Rattle.checking.proofs.RowLaws.{row_1, row_2, row_3, row_4, rows_passed}
use Rattle.checking.proofs.header.header.Goals as goal

-- what is tested of mark and version is row 2's rule
marked :
    (s : List ℕ) (version : ℕ) (mark both : Bool) → version ≡ u16_at s 3 → mark ≡ mark_ok s → both ≡ version_ok (length s) version →
    (mark_ok s && version_ok (length s) (sheet_of s).version) ≡ (mark && both)
unfolding sheet_of
marked s version mark both v m b = rw (m, b, v)

at_3 : (s : List ℕ) (n : ℕ) → header_number s ≡ n → answered n 3 ≡ answered (header_number s) 3
at_3 s n h = ap (λ (k : ℕ). answered k 3) (sym h)

pub returns-then-not-length_ok : goal.returns-then-not-length_ok
returns-then-not-length_ok c = at_3 _ 1 (row_1 _ (sym c.length_ok.ensures ∙ c.if-not-length_ok.true))

pub mark_ok-requires : goal.mark_ok-requires
mark_ok-requires c = sized _ (sym c.length_ok.ensures ∙ c.if-not-length_ok.false)

pub returns-then-not-mark_ok-version_ok : goal.returns-then-not-mark_ok-version_ok
returns-then-not-mark_ok-version_ok c =
    let m = marked _ _ _ _ c.u16_at-version.ensures.0 c.mark_ok.ensures c.version_ok.ensures in
    at_3 _ 2 (row_2 _ (sym c.length_ok.ensures ∙ c.if-not-length_ok.false) (m ∙ c.if-not-mark_ok-version_ok.true))

pub horizon_of-horizon-requires : goal.horizon_of-horizon-requires
horizon_of-horizon-requires c = sized _ (sym c.length_ok.ensures ∙ c.if-not-length_ok.false)

pub returns-then-not-horizon : goal.returns-then-not-horizon
returns-then-not-horizon c =
    let m = marked _ _ _ _ c.u16_at-version.ensures.0 c.mark_ok.ensures c.version_ok.ensures in
    at_3 _ 3 (row_3 _ (sym c.length_ok.ensures ∙ c.if-not-length_ok.false) (m ∙ c.if-not-mark_ok-version_ok.false)
    (sym (ap horizon_ok c.horizon_of-horizon.ensures) ∙ c.if-not-horizon.true))

pub returns-then-rate-gt200000 : goal.returns-then-rate-gt200000
unfolding sheet_of
returns-then-rate-gt200000 c =
    let m = marked _ _ _ _ c.u16_at-version.ensures.0 c.mark_ok.ensures c.version_ok.ensures in
    at_3 _ 4 (row_4 _ (sym c.length_ok.ensures ∙ c.if-not-length_ok.false) (m ∙ c.if-not-mark_ok-version_ok.false)
    (sym (ap horizon_ok c.horizon_of-horizon.ensures) ∙ c.if-not-horizon.false)
    (lt-leb (sheet_of c.args.s.now).rate 200_000 (omega (arith, c.u32_at-rate.ensures.0))))

pub returns : goal.returns
unfolding sheet_of
returns c =
    let m = marked _ _ _ _ c.u16_at-version.ensures.0 c.mark_ok.ensures c.version_ok.ensures in
    at_3 _ 0 (rows_passed _ (sym c.length_ok.ensures ∙ c.if-not-length_ok.false) (m ∙ c.if-not-mark_ok-version_ok.false)
    (sym (ap horizon_ok c.horizon_of-horizon.ensures) ∙ c.if-not-horizon.false)
    (le-leb (sheet_of c.args.s.now).rate 200_000 (omega (arith, c.u32_at-rate.ensures.0))))
