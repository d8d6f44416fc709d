-- The rule of the table of factors, as a test of its numbers: the usual rates one after the other, the years 0 to 300 of each. Definitions only.
use Rattle.std.specs.Prelude.{ℕ, zero, suc, Bool, true, false, ◌&&◌, List, [], ◌∷◌, eqb, drop}
use Rattle.factors.specs.PresentWorth.{at_once, discounted}
use Rattle.yearbook.specs.Yearbook.{last_year, usual_rate}

-- the first n numbers are each the step of the one before, and the first is that of a
abbrev pub are_steps : (rate n a : ℕ) → List ℕ → Bool
are_steps rate zero a xs = true
are_steps rate (suc n) a [] = false
are_steps rate (suc n) a (x ∷ xs) = eqb x (discounted rate a) && are_steps rate n x xs

-- the numbers begin with the factors of a rate: 10^12, then a step for each year
abbrev pub begin_with : (rate : ℕ) → List ℕ → Bool
begin_with rate [] = false
begin_with rate (x ∷ xs) = eqb x at_once && are_steps rate last_year x xs

-- and so on for n rates from a place on
abbrev pub hold_from : (n place : ℕ) → List ℕ → Bool
hold_from zero place xs = true
hold_from (suc n) place xs = begin_with (usual_rate place) xs && hold_from n (suc place) (drop (suc last_year) xs)
