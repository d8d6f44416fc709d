-- Streams as they are filled by steps: one value more (`reached_next`), and the figure that steps give (`reached_figure`, `filled_by`). That is the
-- value of an amount, where a step is plain (`once-zero`, `once-suc`) and fits (`once_fits`), or the running amount of a flow, where it is one in
-- service (`served_zero`, `served_suc`), of which electricity's stream is one (`power_kept`, `power_new`, `power_same`); the places before the
-- one that is written are left (`left_next`). Assumes nothing.
use Prim.Native.Nat.{ℕ, zero, suc, ◌+◌, ◌-◌, ◌*◌, ◌<◌}
use mathlib.Core.Path.{◌≡◌, refl, ap, sym, subst, ◌∙◌}
use mathlib.Core.Bool.{true, false}
use mathlib.Core.List.{List}
use native.Mathlib.Omega.{arith}
use native.Mathlib.Numerals.{add-one}
use lib.ListN.{get_or, length, set}
use lib.Seq.{get_or-set_other}
use Rattle.base.proofs.StoreLaws.{read_after}
use Rattle.sheet.specs.declared.Flow.{Flow}
use Rattle.steps.specs.declared.Units.{Units}
use Rattle.steps.specs.Step.{plain, in_service, repeated}
use Rattle.steps.specs.Payment.{rounded, once}
use Rattle.steps.specs.Fit.{PlainFits}
use Rattle.steps.proofs.RoomLaws.{plains_fit}
use Rattle.costing.specs.Arc.{keeps_motors, since_of, in_year}
use Rattle.costing.proofs.WalkLaws.{in_year_new}
use Rattle.costing.proofs.SheetArcLaws.{since_kept, since_new}
use Rattle.streams.specs.Streams.{Stream, once_in, start_in, Left, Reached, Stepped, Filled, part}

module _ (Makes : Units → Units → Type 0) (first : Units) where
  -- one value more is written
  pub reached_next :
      (at n : ℕ) (s : List ℕ) (v : Units) → at + n < length s → Reached Makes first n v
      → ((y : ℕ) → y < n → Reached Makes first y (record { 0 = get_or s (at + y) 0 })) → (y : ℕ) → y < n + 1
      → Reached Makes first y (record { 0 = get_or (set s (at + n) v.0) (at + y) 0 })
  reached_next at n s v room now before y l =
      read_after (λ (x : ℕ). Reached Makes first y (record { 0 = x })) s (at + n) v.0 (at + y) room
      (λ q. let same : n ≡ y = omega arith in subst (λ (k : ℕ). Reached Makes first k v) same now)
      (λ d. before y (omega (arith, λ (e : y ≡ n). d (omega arith))))

  -- where the first value is that of year 0 of a figure, and each step gives that of the next year, so is what the steps make
  module _ (figure : ℕ → ℕ) (zero_is : first.0 ≡ figure 0) (next_is : (y : ℕ) (u v : Units) → u.0 ≡ figure y → Makes u v → v.0 ≡ figure (y + 1)) where
    pub reached_figure : (y : ℕ) (v : Units) → Reached Makes first y v → v.0 ≡ figure y
    reached_figure zero v e = ap (λ (u : Units). u.0) e ∙ zero_is
    reached_figure (suc n) v (u, r, m) = next_is n u v (reached_figure n u r) m ∙ ap figure (add-one n)

    pub filled_by : (at last : ℕ) (old new : List ℕ) → Stepped Makes first at last old new → Filled at figure last old new
    filled_by at last old new h = record { stream = λ y l. reached_figure y _ (h.stream y l); left = h.left }

module _ (discount amount grow : ℕ) where
  pub once-zero : amount * 10_000 ≡ rounded discount (once amount grow 0)
  unfolding rounded once repeated
  once-zero = refl

  pub once-suc :
      (y : ℕ) {a b : ℕ} → a ≡ rounded discount (once amount grow y) → b ≡ plain grow discount a
      → b ≡ rounded discount (once amount grow (y + 1))
  unfolding rounded once repeated
  once-suc y now step = step ∙ rw (now, add-one y)

  pub once_fits :
      (y : ℕ) {a : ℕ} → a ≡ rounded discount (once amount grow y) → PlainFits grow discount (amount * 10_000) → PlainFits grow discount a
  unfolding rounded once repeated
  once_fits y now h = rw now (plains_fit grow discount y (amount * 10_000) h)

-- a flow in service since year 0, whose value of the next year is a step in service on
module _ (discount : ℕ) (w : Flow) where
  pub served_zero : w.amount * 10_000 ≡ start_in discount w (λ y. 0) 0
  unfolding rounded in_year repeated
  served_zero = refl

  pub served_suc :
      (y : ℕ) {a b : ℕ} → a ≡ start_in discount w (λ z. 0) y → b ≡ in_service w.grow w.age discount a
      → b ≡ start_in discount w (λ z. 0) (y + 1)
  unfolding rounded in_year repeated
  served_suc y now step = let more : y + 1 - 0 + 0 ≡ suc (y - 0 + 0) = omega arith in step ∙ rw (now, more)

  -- electricity's stream: that of a flow in service since year 0 where motors are kept, else that of an amount that is new in each year
  module _ (option at last : ℕ) (old new : List ℕ) where
    since_this : (y : ℕ) {since : ℕ} → since ≡ since_of option y → rounded discount (in_year w since y 0) ≡ start_in discount w (since_of option) y
    since_this y e = ap (λ (since : ℕ). rounded discount (in_year w since y 0)) e

    pub power_kept :
        keeps_motors option ≡ true → Filled at (start_in discount w (λ y. 0)) last old new → Filled at (start_in discount w (since_of option)) last old new
    power_kept e h = record { stream = λ y l. h.stream y l ∙ since_this y (sym (since_kept option y e)); left = h.left }

    pub power_new :
        keeps_motors option ≡ false → Filled at (once_in discount w.amount w.grow) last old new
        → Filled at (start_in discount w (since_of option)) last old new
    power_new e h =
        record { stream = λ y l. h.stream y l ∙ in_year_new discount w y ∙ since_this y (sym (since_new option y e)); left = h.left }

-- and it is the same of equal discount factors and options
pub power_same :
    (w : Flow) (last : ℕ) (s : List ℕ) {d discount o option : ℕ} → d ≡ discount → o ≡ option → Stream (part 2) (start_in d w (since_of o)) last s
    → Stream (part 2) (start_in discount w (since_of option)) last s
power_same w last s p q h y l = h y l ∙ (λ i. start_in (p i) w (since_of (q i)) y)

-- a place before the one that is written is left
pub left_next : (s old : List ℕ) (at y v : ℕ) → Left at old s → Left at old (set s (at + y) v)
left_next s old at y v h k l = get_or-set_other s (at + y) k v 0 (λ q. omega arith) ∙ h k l
