-- What falls in a year: document 02, request 2, "the sum of the payments that fall in year y", of any figure of a payment. Definitions only.
use Rattle.std.specs.Prelude.{ℕ, List, cond, eqb}
use Rattle.base.specs.Lists.{sum_of}
use Rattle.steps.specs.Payment.{Payment, year}

-- a figure in one year, and 0 in every other
unfoldable pub in_only : (at figure y : ℕ) → ℕ
in_only at figure y = cond (eqb at y) figure 0

-- what of a figure of a payment falls in year y, and of payments
abbrev pub falling : (Payment → ℕ) → (y : ℕ) → Payment → ℕ
falling φ y q = in_only (year q) (φ q) y

abbrev pub fallen : (Payment → ℕ) → (y : ℕ) → List Payment → ℕ
fallen φ y qs = sum_of (falling φ y) qs
