-- A table filled from the horizon T down, for any rule that gives a year's entry from those of the later years. Definitions only.
use Rattle.std.specs.Prelude.{ℕ, zero, suc, ◌-◌, List, [], ◌∷◌, get_or}
use Rattle.choice.specs.Running.{Entry, no_entry}

-- a year's entry, by the entries of the other years
abbrev pub Rule : Type 0
Rule = (ℕ → Entry) → ℕ → Entry

-- at T nothing is left to be done
abbrev pub nothing_left : Entry
nothing_left = record { total = 0; ends = [] }

-- the entries of the n years before T, and of T itself
unfoldable pub table : (T : ℕ) → Rule → ℕ → List Entry
table T rule zero = nothing_left ∷ []
table T rule (suc n) = let later = table T rule n in rule (λ e. get_or later (e - (T - n)) no_entry) (T - suc n) ∷ later

-- the entry of year y
unfoldable pub entry : (T : ℕ) → Rule → ℕ → Entry
entry T rule y = get_or (table T rule T) y no_entry
