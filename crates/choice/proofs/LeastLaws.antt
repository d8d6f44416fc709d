-- The running choice over the years that are offered is the entry of the lists that begin with one of them (`over_holds`). Assumes nothing.
use Prim.Native.Nat.{ℕ, zero, suc, ◌+◌, ◌≤◌, ◌<◌}
use mathlib.Core.Path.{◌≡◌, refl, ap}
use mathlib.Core.Bool.{Bool, true, Bool-discrete, not-eq-not}
use mathlib.Core.List.{List, [], ◌∷◌}
use mathlib.Core.Logic.{◌↔◌, inl, inr, ⊎_elim, by_cases}
use native.Mathlib.Nat.{add-zero, add-suc, le_refl, le_of_suc-le-suc, eq-or-lt_of_le, lt_of_not-le}
use native.Mathlib.Decide.{dec_le}
use native.Mathlib.Omega.{arith}
use Rattle.choice.specs.Choice.{Before, NotWorse, Chosen}
use Rattle.choice.specs.Running.{Entry, no_total, no_entry, entries, weigh, over_ends, Holds, Then, then_weight, none, some}
use Rattle.choice.proofs.ChoiceLaws.{chosen_le}
use Rattle.choice.proofs.HoldsLaws.{holds_chosen, holds_least, holds_same}
use Rattle.choice.proofs.RunningLaws.{weigh_none, weigh-take, weigh_keep, over_zero, over_offered, over_passed}

module _ (offered : ℕ → Bool) (cost : ℕ → ℕ) (behind : ℕ → Entry) (Rest : ℕ → List ℕ → Type 0) (rest : ℕ → List ℕ → ℕ) (room : ℕ → ℕ)
    (bound : ℕ) where
  -- the lists whose first year is offered and below n
  abbrev Below : (n : ℕ) → List ℕ → Type 0
  Below n [] = ⊥
  Below n (x ∷ xs) = (x < n) × Then offered Rest (x ∷ xs)

  -- t is their entry
  abbrev HoldsBelow : (n : ℕ) (t : Entry) → Type 0
  HoldsBelow n t = Holds (Below n) (then_weight cost rest) bound t

  below_suc : (n : ℕ) (xs : List ℕ) → Below n xs → Below (suc n) xs
  below_suc n [] h = h
  below_suc n (x ∷ xs) h = (omega (arith, h.0), h.1)

  -- the lists below n + 1 are those below n, and those that begin with n
  below_cases :
      (n : ℕ) (P : List ℕ → Type 0) → ((xs : List ℕ) → Below n xs → P xs) → ((xs : List ℕ) → Then offered Rest (n ∷ xs) → P (n ∷ xs))
      → (xs : List ℕ) → Below (suc n) xs → P xs
  below_cases n P f g [] h = absurd h
  below_cases n P f g (x ∷ xs) h =
      ⊎_elim (λ (e : x ≡ n). rw e (g xs (rw e at h.1))) (λ l. f (x ∷ xs) (l, h.1)) (eq-or-lt_of_le (le_of_suc-le-suc h.0))

  before_below : (n : ℕ) (xs ys : List ℕ) → Below n ys → Before (n ∷ xs) ys
  before_below n xs [] h = h
  before_below n xs (y ∷ ys) h = inl h.0

  module _ (small : bound < no_total) (held : (e : ℕ) → offered e ≡ true → Holds (Rest e) (rest e) (room e) (behind e))
      (fits : (e : ℕ) → offered e ≡ true → cost e + room e ≤ bound) where
    -- one more year e, after the choice of those below it
    module _ (e : ℕ) (best : Entry) (h : HoldsBelow e best) where
      -- where no list begins with e, nothing changes
      below_none : ((xs : List ℕ) → Then offered Rest (e ∷ xs) → ⊥) → HoldsBelow (suc e) best
      below_none never =
          holds_same (Below e) (Below (suc e)) _ _
          (λ xs. (below_suc e xs, below_cases e (Below e) (λ xs m. m) (λ xs m. absurd (never xs m)) xs)) (λ xs m. refl) bound best h

      module _ (on : offered e ≡ true) (c : Chosen (Rest e) (rest e) (behind e).ends) (q : rest e (behind e).ends ≡ (behind e).total)
          (r : (behind e).total ≤ room e) where
        -- The exchange. Take the list that begins with e and goes on with the one chosen behind e. In a list that begins with e, what follows
        -- e can be exchanged for the one chosen, and the list gets no worse: so the list taken is not worse than it. If the list taken weighs
        -- no more than the best of those below e, it is not worse than these either: one of the same weight has an earlier first year.
        below-take :
            cost e + (behind e).total ≤ best.total
            → HoldsBelow (suc e) (record { total = cost e + (behind e).total; ends = e ∷ (behind e).ends })
        below-take l =
            some (record { member = (le_refl (suc e), (on, c.member)); least = below_cases e _ under from })
            (ap (λ (k : ℕ). cost e + k) q) (omega (arith, fits e on))
          where
            under : (ys : List ℕ) → Below e ys → NotWorse (then_weight cost rest) (e ∷ (behind e).ends) ys
            under ys m =
                ⊎_elim (λ same. inr (same, before_below e (behind e).ends ys m)) inl
                (eq-or-lt_of_le (omega (arith, holds_least _ _ _ _ h small ys m)))

            from : (ys : List ℕ) → Then offered Rest (e ∷ ys) → NotWorse (then_weight cost rest) (e ∷ (behind e).ends) (e ∷ ys)
            from ys m = ⊎_elim (λ l. inl (omega arith)) (λ p. inr (omega (arith, p.0), inr (refl, p.1))) (c.least ys m.1)

        -- if that list weighs more than the best of those below e, so does each list that begins with e
        below_keep : best.total < cost e + (behind e).total → HoldsBelow (suc e) best
        below_keep l =
            let b = holds_chosen _ _ _ _ h (λ n. omega (arith, fits e on)) in
            some
            (record {
              member = below_suc e best.ends b.0.member;
              least = below_cases e _ b.0.least (λ ys m. inl (omega (arith, b.1, chosen_le _ _ _ c ys m.1)));
            })
            b.1 b.2

      below-weigh : offered e ≡ true → Holds (Rest e) (rest e) (room e) (behind e) → HoldsBelow (suc e) (weigh entries best (cost e) e (behind e))
      below-weigh on (none q never) = rw (weigh_none entries best (cost e) e (behind e) (rw q)) (below_none (λ xs m. never xs m.1))
      below-weigh on (some c q r) =
          let there : (behind e).total ≡ no_total → ⊥ = λ n. omega (arith, fits e on) in
          by_cases (dec_le (cost e + (behind e).total) best.total)
          (λ l. rw (weigh-take entries best (cost e) e (behind e) there l) (below-take on c q r l))
          (λ n. let l = lt_of_not-le n in rw (weigh_keep entries best (cost e) e (behind e) there l) (below_keep on c q r l))

    module _ (s k : ℕ) (inside : (e : ℕ) → offered e ≡ true → (s ≤ e) × (e < s + k)) where
      -- the choice after n ends is the entry of the lists below s + n
      below_over : (n : ℕ) → HoldsBelow (s + n) (over_ends entries offered cost behind s no_entry n)
      below_over zero = rw (over_zero entries, add-zero) (none refl nothing)
        where
          nothing : (xs : List ℕ) → Below s xs → ⊥
          nothing [] m = m
          nothing (x ∷ xs) m = omega (arith, m.0, (inside x m.1.0).0)
      below_over (suc n) =
          let e = s + n in
          let best = over_ends entries offered cost behind s no_entry n in
          rw (add-suc s n)
          (by_cases (Bool-discrete (offered e) true)
          (λ on. rw (over_offered entries _ _ _ s _ n on) (below-weigh e best (below_over n) on (held e on)))
          (λ off. rw (over_passed entries _ _ _ s _ n (not-eq-not.0 off)) (below_none e best (below_over n) (λ xs m. off m.0))))

      pub over_holds : Holds (Then offered Rest) (then_weight cost rest) bound (over_ends entries offered cost behind s no_entry k)
      over_holds = holds_same (Below (s + k)) (Then offered Rest) _ _ same (λ xs m. refl) bound _ (below_over k)
        where
          same : (xs : List ℕ) → Below (s + k) xs ↔ Then offered Rest xs
          same [] = (λ m. m, λ m. m)
          same (x ∷ xs) = (λ m. m.1, λ m. ((inside x m.0).1, m))
