-- Streams: the values of an option's amounts in the years 0 to `last`, in one list of twelve parts of 301 years each. Part 0 is the
-- investment, part 1 maintenance, part 2 electricity as an arc from that year finds it, part 3 + j the j-th overhaul, from 0, and part 11 removal.
-- Definitions only.
use Rattle.std.specs.Prelude.{ℕ, zero, suc, ◌+◌, ◌*◌, ◌≤◌, ◌<◌, ◌≡◌, List, get_or, length}
use Rattle.sheet.specs.Layout.{year_places}
use Rattle.sheet.specs.Parsed.{no_terms}
use Rattle.sheet.specs.declared.Flow.{Flow}
use Rattle.sheet.specs.declared.Overhauls.{Overhauls}
use Rattle.sheet.specs.declared.Sheet.{Sheet}
use Rattle.sheet.specs.declared.Terms.{Terms}
use Rattle.steps.specs.declared.Units.{Units}
use Rattle.steps.specs.Payment.{rounded, once}
use Rattle.costing.specs.Arc.{kept_of, in_year, electricity, age_of}
use Rattle.costing.specs.declared.Kept.{Kept}

-- from place `at` on, a value of year 0, 1, .., last
abbrev pub Stream : (at : ℕ) (value : ℕ → ℕ) (last : ℕ) (s : List ℕ) → Type 0
Stream at value last s = (y : ℕ) → y ≤ last → get_or s (at + y) 0 ≡ value y

-- the value of an amount paid once in a year; and the running amount of a flow at the start of an arc from a year, in service since another
abbrev pub once_in : (discount amount grow y : ℕ) → ℕ
once_in discount amount grow y = rounded discount (once amount grow y)

abbrev pub start_in : (discount : ℕ) → Flow → (since : ℕ → ℕ) (y : ℕ) → ℕ
start_in discount w since y = rounded discount (in_year w (since y) y 0)

-- the places before `at` are as they were
abbrev pub Left : (at : ℕ) (old new : List ℕ) → Type 0
Left at old new = (k : ℕ) → k < at → get_or new k 0 ≡ get_or old k 0

-- what filling one stream gives
pub record Filled (at : ℕ) (value : ℕ → ℕ) (last : ℕ) (old new : List ℕ) : Type 0 where
  pub stream : Stream at value last new
  pub left : Left at old new

-- what a number of steps may make of a first value, by what a step may make of one
abbrev pub Reached : (Makes : Units → Units → Type 0) (first : Units) (steps : ℕ) → Units → Type 0
Reached Makes first zero v = v ≡ first
Reached Makes first (suc n) v = (u : Units) × Reached Makes first n u × Makes u v

-- what filling one stream by steps gives: y places on stands what y steps may make
pub record Stepped (Makes : Units → Units → Type 0) (first : Units) (at last : ℕ) (old new : List ℕ) : Type 0 where
  pub stream : (y : ℕ) → y ≤ last → Reached Makes first y (record { 0 = get_or new (at + y) 0 })
  pub left : Left at old new

-- where a part begins
abbrev pub part : ℕ → ℕ
part k = k * year_places

-- twelve parts
abbrev pub stream_places : ℕ
stream_places = part 12

-- what removal costs in a year
abbrev pub removal_on : (streams : List ℕ) (year : ℕ) → ℕ
removal_on streams year = get_or streams (part 11 + year) 0

-- the streams of the first n overhauls
abbrev pub OverhaulStreams : (discount : ℕ) → Overhauls → (n last : ℕ) → List ℕ → Type 0
OverhaulStreams discount o n last s = (j : ℕ) → j < n → Stream (part (3 + j)) (once_in discount (get_or o.amounts j 0) o.grow) last s

-- what filling the streams of all overhauls gives
pub record OverhaulsFilled (discount : ℕ) (o : Overhauls) (last : ℕ) (old new : List ℕ) : Type 0 where
  pub streams : OverhaulStreams discount o o.count last new
  pub left : Left (part 3) old new

-- all streams of an option but electricity's
pub record Streams (discount : ℕ) (t : Terms) (last : ℕ) (s : List ℕ) : Type 0 where
  pub room : stream_places ≤ length s
  pub investment : Stream (part 0) (once_in discount t.investment.amount t.investment.grow) last s
  pub maintenance : Stream (part 1) (once_in discount t.maintenance.amount t.maintenance.grow) last s
  pub overhauls : OverhaulStreams discount t.overhauls t.overhauls.count last s
  pub removal : Stream (part 11) (once_in discount t.removal.amount t.removal.grow) last s

-- electricity's stream has, in the year in which an option that is kept starts, its running amount
abbrev pub PowerAt : Kept → List ℕ → Type 0
PowerAt a s = get_or s (part 2 + a.from) 0 ≡ rounded a.discount (electricity a 0)

-- in year n of an arc, from 0: the overhauls before `next` have been paid, the others have not
pub record Falls (a : Kept) (n next : ℕ) : Type 0 where
  pub within : next ≤ a.terms.overhauls.count
  pub behind : (j : ℕ) → j < next → age_of a j < n
  pub ahead : (j : ℕ) → next ≤ j → j < a.terms.overhauls.count → n ≤ age_of a j

-- the streams of a sheet's option, for the years up to T
abbrev pub StreamsOf : Sheet → (option : ℕ) (streams : List ℕ) → Type 0
StreamsOf s option streams = Streams s.discount (get_or s.options option no_terms) s.horizon streams

-- what is lent with a sheet for one of its options: that option's streams, the ages of its overhauls, and electricity's stream
abbrev pub Lent : Sheet → (option : ℕ) (streams ages : List ℕ) → Type 0
Lent s option streams ages =
    StreamsOf s option streams
    × (ages ≡ (get_or s.options option no_terms).overhauls.ages)
    × ((y : ℕ) → y ≤ s.horizon → PowerAt (kept_of s option y) streams)
