-- The totals behind the ends of an option, with what ending there adds: the removal, which goes by the end year alone. `SheetEndLaws.antt` shows that
-- the choice by these totals is the choice by what the arcs cost, removal included. Definitions only.
use Rattle.std.specs.Prelude.{ℕ, ◌+◌, ◌^◌, ◌≤◌, ◌<◌, ◌≡◌, cond, List, ltb, eqb, length}
use Rattle.sheet.specs.Sheet.{PlanningSheet}
use Rattle.steps.specs.Payment.{rounded}
use Rattle.costing.specs.Arc.{arc_of, removal}
use Rattle.costing.specs.declared.Kept.{Kept}
use Rattle.choice.specs.Running.{Entry, no_total}
use Rattle.streams.specs.Streams.{stream_places, removal_on}
use Rattle.weighing.specs.Ends.{word_of}

-- the total behind an end, with more; none where there is none
unfoldable pub ahead_of : (word more : ℕ) → ℕ
ahead_of word more = cond (eqb word no_total) no_total (word + more)

-- a word is the total of the entry behind an end, with more, and the sum is not taken for no total
abbrev pub Ahead : (word more : ℕ) (behind : Entry) → Type 0
Ahead word more behind = (word ≡ ahead_of behind.total more) × ((behind.total ≡ no_total → ⊥) → behind.total + more ≡ no_total → ⊥)

-- what ending an option that is kept in year e adds: its removal, before T
unfoldable pub end_adds : Kept → (T e : ℕ) → ℕ
end_adds a T e = cond (ltb e T) (rounded a.discount (removal a e)) 0

-- of an option of a sheet, from whichever year it is kept
abbrev pub adds_at : PlanningSheet → (option e : ℕ) → ℕ
adds_at p option e = end_adds (arc_of p option 0 0).kept p.horizon e

-- what writing the total behind the ends of a year asks: the lists have a place for the year, and the sum fits
pub record LooksAhead (ahead words streams : List ℕ) (year : ℕ) : Type 0 where
  pub near : year ≤ 300
  pub place : year < length ahead
  pub word : year < length words
  pub lent : stream_places ≤ length streams
  pub room : (word_of words year ≡ no_total → ⊥) → word_of words year + removal_on streams year < 2 ^ 64
