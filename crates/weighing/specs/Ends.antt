-- The ends of an option that is kept from a year: which it may have, what the arcs to them cost, the totals behind them, and the choice of one.
-- Definitions only.
use Rattle.std.specs.Prelude.{ℕ, ◌+◌, ◌-◌, ◌*◌, ◌≤◌, ◌<◌, ◌≡◌, List, Bool, ◌&&◌, leb, length, get_or}
use Rattle.base.specs.Tally.{how_many}
use Rattle.division.specs.declared.Divisor.{Divisor}
use Rattle.steps.specs.Fit.{largest_payment}
use Rattle.costing.specs.Arc.{paid, worth}
use Rattle.costing.specs.Fit.{yearly, KeptFits, Steppable}
use Rattle.costing.specs.declared.Kept.{Kept}
use Rattle.choice.specs.Running.{no_total, over_ends}
use Rattle.streams.specs.Streams.{Streams, PowerAt}
use Rattle.weighing.specs.Best.{numbers}
use Rattle.weighing.specs.declared.Best.{Best}

-- whether an option that is kept may end in a year after its start, and what the arc costs, but for its removal
abbrev pub may_end : Kept → ℕ → Bool
may_end a e = leb a.terms.shortest (e - a.from) && leb (e - a.from) a.terms.longest

abbrev pub kept_cost : Kept → ℕ → ℕ
kept_cost a e = worth a (paid a (e - a.from))

-- what is asked of an option that is kept and of what is lent with it, so that a loop can walk its arcs up to a last year
pub record Walks (a : Kept) (d : Divisor) (last : ℕ) (streams lent : List ℕ) : Type 0 where
  pub steps : Steppable a d
  pub ages : lent ≡ a.terms.overhauls.ages
  pub paid : Streams a.discount a.terms last streams
  pub power : PowerAt a streams

-- the choice so far after the ends of an option that is kept, in the first n years after its start
abbrev pub best_after : Kept → (words : ℕ → ℕ) → Best → (n : ℕ) → Best
best_after a words best n = over_ends numbers (may_end a) (kept_cost a) words (a.from + 1) best n

-- up to T
abbrev pub best_to : Kept → (T : ℕ) (words : ℕ → ℕ) → Best → Best
best_to a T words best = best_after a words best (T - a.from)

-- for request 7, which no call answers yet: how many arcs that takes, those to the ends that the option may have, in the first n years after its
-- start, and up to T
abbrev pub weighed_after : Kept → (n : ℕ) → ℕ
weighed_after a n = how_many (may_end a) (a.from + 1) n

abbrev pub weighed_to : Kept → (T : ℕ) → ℕ
weighed_to a T = weighed_after a (T - a.from)

-- what the arcs of an option that is kept cost, but for removal, by their lengths: of one year, of two years, .., of that many
abbrev pub Costs : Kept → (years : ℕ) → List ℕ → Type 0
Costs a years costs = (n : ℕ) → n < years → get_or costs n 0 ≡ worth a (paid a (n + 1))

-- the same of the arcs that end by T and are not longer than the longest life
abbrev pub CostsTo : Kept → (T : ℕ) → List ℕ → Type 0
CostsTo a T costs = (n : ℕ) → n < a.terms.longest → a.from + n < T → get_or costs n 0 ≡ worth a (paid a (n + 1))

-- the total that stands at a year: a lent word, the total of renovating from there, or either with what ending there adds
abbrev pub word_of : List ℕ → ℕ → ℕ
word_of words y = get_or words y 0

-- the words of the years after y leave room: where there is a total, it is at most 12 payments a year, and one more for what ending there adds
abbrev pub WordsFit : (T y : ℕ) → List ℕ → Type 0
WordsFit T y words = (e : ℕ) → y < e → e ≤ T → (word_of words e ≡ no_total → ⊥) → word_of words e ≤ (T - e) * yearly + largest_payment

-- what is asked of the words behind the ends of an option that is kept: it starts by T, T is not too far, there is a word for each year, and
-- they leave room
pub record WordsBehind (a : Kept) (T : ℕ) (words : List ℕ) : Type 0 where
  pub early : a.from ≤ T
  pub far : T ≤ 300
  pub room : T < length words
  pub fits : WordsFit T a.from words

-- what is asked of the costs of its arcs up to T
pub record CostsKnown (a : Kept) (T : ℕ) (costs : List ℕ) : Type 0 where
  pub fits : KeptFits a
  pub known : CostsTo a T costs
  pub room : 120 ≤ length costs

-- the arc of n + 1 years with the total behind its end: above a total, or not
abbrev pub Dearer : Kept → (words : ℕ → ℕ) (total n : ℕ) → Type 0
Dearer a words total n = let e = a.from + (n + 1) in (words e ≡ no_total → ⊥) → total < kept_cost a e + words e

abbrev pub AtMost : Kept → (words : ℕ → ℕ) (total n : ℕ) → Type 0
AtMost a words total n = let e = a.from + (n + 1) in (words e ≡ no_total → ⊥) × (kept_cost a e + words e ≤ total)

-- the first n from one place up to another that is not above a total; the other place if there is none
pub record NextEnd (a : Kept) (words : ℕ → ℕ) (first until total r : ℕ) : Type 0 where
  pub from : first ≤ r
  pub to : r ≤ until
  pub passed : (n : ℕ) → first ≤ n → n < r → Dearer a words total n
  pub found : r < until → AtMost a words total r
