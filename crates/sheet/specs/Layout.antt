-- Where the records of a planning sheet stand, how long it is, and how many places a list by years has: document 01, 'The planning sheet
-- (278 bytes)', with the longer sheet of document 02, request 6. Definitions only.
use Rattle.std.specs.Prelude.{ℕ, ◌+◌, ◌*◌, ◌≤◌, ◌≡◌, Bool, true, false, ◌||◌, List, eqb, length}

-- A sheet has 278 bytes, or 302: the layout goes by the length, and refusal 2 asks that the version goes with it.
abbrev pub length_ok : ℕ → Bool
length_ok n = eqb n 278 || eqb n 302

abbrev pub is_long : List ℕ → Bool
is_long s = eqb (length s) 302

-- an option record has 89 bytes, in the longer sheet 97, and three of them follow the first 11 bytes of a sheet
unfoldable pub record_length : (long : Bool) → ℕ
record_length true = 97
record_length false = 89

abbrev pub record_start : (long : Bool) → ℕ → ℕ
record_start long k = 11 + record_length long * k

-- what reading a sheet asks: its third record ends where it ends
pub record Sized (s : List ℕ) : Type 0 where
  pub whole : 11 + 3 * record_length (is_long s) ≡ length s
  pub least : 89 ≤ record_length (is_long s)

-- what reading record k asks of the place where it starts: all bytes of the record stand in the sheet
pub record RecordAt (s : List ℕ) (k at : ℕ) : Type 0 where
  pub starts : at ≡ record_start (is_long s) k
  pub inside : at + 89 ≤ length s
  pub longer : is_long s ≡ true → at + 97 ≤ length s

-- T is at most 300: a list by years has a place for each of the years 0 to 300
abbrev pub year_places : ℕ
year_places = 301
