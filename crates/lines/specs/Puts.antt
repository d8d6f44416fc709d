-- How text is put into a lent buffer, for the contracts of the functions that put it. Definitions only.
use Rattle.std.specs.Prelude.{ℕ, ◌+◌, ◌≤◌, ◌≡◌, List, length}
use Rattle.std.proofs.lemmas.List.Edits.{sets}

-- the bytes stand in the text from a place on, all else is kept, and the place behind them, which is inside the text, is answered
pub record Puts (text : List ℕ) (at : ℕ) (bytes text' : List ℕ) (end : ℕ) : Type 0 where
  pub stored : text' ≡ sets text at bytes
  pub behind : end ≡ at + length bytes
  pub inside : end ≤ length text
