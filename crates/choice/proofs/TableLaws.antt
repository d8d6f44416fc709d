-- Laws of `table` and `entry`: a table has the entries in the years' order (`table-last`, `table-cons`, `table-length`), and at T nothing is
-- left (`entry-last`). Where the rule reads only later years, a year's entry is what the rule gives by the entries (`entry_step`), and
-- induction from T down holds (`every_year`). Assumes nothing.
use Prim.Native.Nat.{ℕ, zero, suc, ◌+◌, ◌-◌, ◌≤◌, ◌<◌}
use mathlib.Core.Path.{◌≡◌, refl, sym, ◌∙◌}
use mathlib.Core.List.{[], ◌∷◌}
use mathlib.Core.Logic.{⊎_elim}
use native.Mathlib.Nat.{add-zero, add-suc, sub-zero, sub_self, eq-or-lt_of_le}
use native.Mathlib.Omega.{arith}
use lib.ListN.{length, get_or}
use Rattle.choice.specs.Running.{Entry, no_entry}
use Rattle.choice.specs.Table.{Rule, nothing_left, table, entry}

module _ (T : ℕ) (rule : Rule) where
  pub table-last : table T rule 0 ≡ nothing_left ∷ []
  unfolding table
  table-last = refl

  pub table-length : (n : ℕ) → length (table T rule n) ≡ n + 1
  unfolding table
  table-length zero = refl
  table-length (suc n) = omega (arith, table-length n)

  -- the entry of year y in the table of the last n years
  look : (n y : ℕ) → Entry
  look n y = get_or (table T rule n) (y - (T - n)) no_entry

  look_add : (d n y : ℕ) → n + d ≤ T → T - n ≤ y → look (n + d) y ≡ look n y
  unfolding look table
  look_add zero n y h l = rw (add-zero n)
  look_add (suc d) n y h l =
      let e : y - (T - suc (n + d)) ≡ suc (y - (T - (n + d))) = omega arith in
      rw (add-suc n d, e) (look_add d n y (omega arith) l)

  entry_look : (n y : ℕ) → n ≤ T → T - n ≤ y → entry T rule y ≡ look n y
  unfolding look entry
  entry_look n y h l =
      let e : n + (T - n) ≡ T = omega arith in
      rw (e, sub_self T, sub-zero y) at (look_add (T - n) n y (omega arith) l)

  pub entry-last : entry T rule T ≡ nothing_left
  unfolding look table
  entry-last = entry_look 0 T (omega arith) (omega arith) ∙ rw (sub-zero T, sub_self T)

  -- a year's entry is what the rule gives by the table of the later years
  entry-rule : (y : ℕ) → y < T → entry T rule y ≡ rule (look (T - (y + 1))) y
  unfolding look table
  entry-rule y h =
      let n = T - (y + 1) in
      let e : T - suc n ≡ y = omega arith in
      entry_look (suc n) y (omega arith) (omega arith) ∙ rw (e, sub_self y)

  pub table-cons : (y : ℕ) → y < T → table T rule (T - y) ≡ entry T rule y ∷ table T rule (T - (y + 1))
  unfolding look table
  table-cons y h =
      let n = T - (y + 1) in
      let e : T - y ≡ suc n = omega arith in
      let first : T - suc n ≡ y = omega arith in
      rw (e, entry-rule y h, first)

  module _ (later_only : (g g' : ℕ → Entry) (y : ℕ) → y < T → ((e : ℕ) → y < e → e ≤ T → g e ≡ g' e) → rule g y ≡ rule g' y) where
    pub entry_step : (y : ℕ) → y < T → entry T rule y ≡ rule (entry T rule) y
    entry_step y h =
        let n = T - (y + 1) in
        entry-rule y h ∙ later_only (look n) (entry T rule) y h (λ e l u. sym (entry_look n e (omega arith) (omega arith)))

    -- what holds at T, and of a year where it holds of all later ones, holds of every year
    module _ (P : ℕ → Entry → Type 0) (last : P T nothing_left)
        (step : (y : ℕ) → y < T → ((e : ℕ) → y < e → e ≤ T → P e (entry T rule e)) → P y (rule (entry T rule) y)) where
      every_within : (n y : ℕ) → y ≤ T → T < y + n → P y (entry T rule y)
      every_within zero y l h = absurd (omega arith)
      every_within (suc n) y l h =
          ⊎_elim (λ (e : y ≡ T). rw (e, entry-last) last) (λ u. rw (entry_step y u) (step y u (λ e u v. every_within n e v (omega arith))))
          (eq-or-lt_of_le l)

      pub every_year : (y : ℕ) → y ≤ T → P y (entry T rule y)
      every_year y l = every_within (suc T) y l (omega arith)
