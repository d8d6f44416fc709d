-- The bytes of plans for the cases, written out: they do not go by the definitions that the cases evaluate. Definitions only.
use Rattle.std.specs.Prelude.{ℕ, List, [], ◌∷◌, ◌++◌, length, replicate}

-- end years below 256, two bytes each
abbrev pub ends_written : List ℕ → List ℕ
ends_written [] = []
ends_written (k ∷ ks) = k ∷ 0 ∷ ends_written ks

-- a plan: the bytes of its total, i, j, and its ends, each below 256
abbrev pub plan_of : (total_bytes : List ℕ) (i j : ℕ) → List ℕ → List ℕ
plan_of total_bytes i j ks = (82 ∷ 67 ∷ 80 ∷ 1 ∷ 0 ∷ []) ++ total_bytes ++ (i ∷ 0 ∷ j ∷ 0 ∷ length ks ∷ 0 ∷ []) ++ ends_written ks

-- a plan of replacements alone: the eight bytes of the total field are all the same
abbrev pub replacing : (field : ℕ) → List ℕ → List ℕ
replacing field ks = plan_of (replicate 8 field) 0 0 ks
