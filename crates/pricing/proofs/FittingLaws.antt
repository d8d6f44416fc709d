-- Laws of `fitting`. The mark is tested as std tests what a list begins with (`mark_read`); bytes of a plan's shape are there to be read
-- (`shaped_enough`, `shaped_long`). The tests and the facts agree (`reaches-iff`, `feasible-iff`, `fitting-iff`). Part by part: bytes without a
-- plan's shape, maintaining or renovating that is not offered, and else what the replacements decide, where i, j and m are the numbers read from
-- the plan (`fitting-replaced`); together they are `parts_of_fitting`. Assumes nothing.
use Prim.Native.Nat.{ℕ, ◌≤◌}
use mathlib.Core.Path.{◌≡◌}
use mathlib.Core.List.{List, [], ◌∷◌}
use mathlib.Core.Bool.{true, false, ◌&&◌}
use mathlib.Core.Logic.{◌↔◌}
use native.Mathlib.Omega.{arith}
use lib.Dec.{eqb}
use lib.ListN.{length, get_or}
use Rattle.std.specs.List.{starts_with}
use Rattle.std.proofs.lemmas.Bool.Decides.{nat_tests}
use Rattle.base.specs.Numbers.{u16_at}
use Rattle.base.proofs.TestLaws.{eqb-iff, both_iff}
use Rattle.sheet.specs.Sheet.{PlanningSheet, maintain, renovate, replace}
use Rattle.costing.specs.Offered.{offered}
use Rattle.costing.proofs.OfferedLaws.{offered-iff}
use Rattle.chain.specs.Chain.{Chain, replacements, last, Reaches, Feasible}
use Rattle.chain.specs.PlanBytes.{plan_size, count_field, ends_at, decode, shaped, Shaped}
use Rattle.chain.proofs.PlanBytesLaws.{shaped-iff}
use Rattle.chain.proofs.FeasibleLaws.{feasible-parts}
use Rattle.pricing.specs.Fitting.{reaches, feasible, fitting}

-- the mark at the front, as the code tests it
marked : (a b c : ℕ) → eqb 82 a && (eqb 67 b && (eqb 80 c && true)) ≡ eqb a 82 && eqb b 67 && eqb c 80
marked a b c = grind (arith, nat_tests)

pub mark_read :
    (plan : List ℕ) → 3 ≤ length plan
    → starts_with eqb plan (82 ∷ 67 ∷ 80 ∷ []) ≡ eqb (get_or plan 0 0) 82 && eqb (get_or plan 1 0) 67 && eqb (get_or plan 2 0) 80
mark_read (a ∷ b ∷ c ∷ rest) h = marked a b c
mark_read (a ∷ b ∷ []) h = absurd (omega arith)
mark_read (a ∷ []) h = absurd (omega arith)
mark_read [] h = absurd (omega arith)

-- bytes of a plan's shape are there to be read
module _ (plan : List ℕ) (ok : shaped plan ≡ true) where
  pub shaped_enough : 19 ≤ length plan
  shaped_enough = ((shaped-iff plan).0 ok).enough

  pub shaped_long : length plan ≡ plan_size (count_field plan)
  shaped_long = ((shaped-iff plan).0 ok).long

-- the tests and the facts agree
module _ (p : PlanningSheet) where
  reaches-iff : (y : ℕ) (ks : List ℕ) → (reaches p y ks ≡ true) ↔ Reaches p y ks
  unfolding reaches replacements last
  reaches-iff y [] =
      let ends = eqb-iff y p.horizon in
      (λ e. record { offered = tt; arrived = ends.0 e }, λ h. ends.1 h.arrived)
  reaches-iff y (k ∷ ks) =
      let both = both_iff (offered-iff p replace y k) (reaches-iff k ks) in (
        λ e. let h = both.0 e in record { offered = (h.0, h.1.offered); arrived = h.1.arrived },
        λ h. both.1 (h.offered.0, record { offered = h.offered.1; arrived = h.arrived }),
      )

  pub feasible-iff : (c : Chain) → (feasible p c ≡ true) ↔ Feasible p c
  unfolding feasible
  feasible-iff c =
      let tests =
      both_iff (offered-iff p maintain 0 c.i)
      (both_iff (offered-iff p renovate c.i c.j) (reaches-iff c.j c.ends)) in
      let parts = feasible-parts p c in
      (λ e. parts.1 (tests.0 e), λ h. tests.1 (parts.0 h))

module _ (p : PlanningSheet) (plan : List ℕ) where
  pub fitting_unshaped : shaped plan ≡ false → fitting p plan ≡ false
  unfolding fitting
  fitting_unshaped out = rw out

  module _ (ok : shaped plan ≡ true) {i : ℕ} (first : i ≡ u16_at plan 13) where
    pub fitting_unmaintained : offered p maintain 0 i ≡ false → fitting p plan ≡ false
    unfolding fitting feasible decode
    fitting_unmaintained out = rw (ok, ← first, out)

    module _ (maintained : offered p maintain 0 i ≡ true) {j : ℕ} (second : j ≡ u16_at plan 15) where
      pub fitting_unrenovated : offered p renovate i j ≡ false → fitting p plan ≡ false
      unfolding fitting feasible decode
      fitting_unrenovated out = rw (ok, ← first, ← second, maintained, out)

      pub fitting-replaced : offered p renovate i j ≡ true → {m : ℕ} → m ≡ count_field plan → fitting p plan ≡ reaches p j (ends_at plan 19 m)
      unfolding fitting feasible decode
      fitting-replaced renovated third = rw (ok, ← first, ← second, maintained, renovated, third)

  pub fitting-iff : (fitting p plan ≡ true) ↔ (Shaped plan × Feasible p (decode plan))
  unfolding fitting
  fitting-iff = both_iff (shaped-iff plan) (feasible-iff p (decode plan))

-- what a step through the parts of plan bytes asks for
pub ruleset parts_of_fitting = (shaped_enough, shaped_long, fitting_unshaped, fitting_unmaintained, fitting_unrenovated, fitting-replaced)
