-- Laws of `Feasible`: a chain is feasible exactly where maintaining and renovating are offered and replacements, each of a year or more
-- (`replace_forward`), lead to T (`feasible-parts`); its years are in order (`ordered_of_feasible`, `climbs_rest`), its activities follow each
-- other from 0 to T (`feasible_linked`), its replacements are at most T (`few_ends`), its numbers narrow (`narrow_of_feasible`), and its bytes
-- give it back (`decode-feasible`). Assumes nothing.
use Prim.Native.Nat.{ℕ, ◌+◌, ◌≤◌, ◌<◌}
use mathlib.Core.Path.{◌≡◌, refl}
use mathlib.Core.List.{List, [], ◌∷◌}
use mathlib.Core.Logic.{◌↔◌, ⊎_elim}
use native.Mathlib.Omega.{arith}
use lib.ListN.{length}
use Rattle.base.specs.Lists.{Every}
use Rattle.base.proofs.ListsLaws.{every_map}
use Rattle.sheet.specs.Sheet.{PlanningSheet, maintain, renovate, replace}
use Rattle.costing.specs.Offered.{Offered}
use Rattle.chain.specs.Chain.{Chain, replacements, activities, Rising, last, OffersActivity, Reaches, Feasible}
use Rattle.chain.specs.PlanBytes.{encode, decode, Narrow}
use Rattle.chain.specs.Ordered.{Climbs, Ordered, Linked}
use Rattle.chain.proofs.PlanBytesLaws.{decode-encode}

-- without the first of the years
pub climbs_rest : {T y k : ℕ} {ks : List ℕ} → Climbs T y (k ∷ ks) → Climbs T k ks
climbs_rest h = record { early = h.inside.0; rising = h.rising.1; inside = h.inside.1 }

-- what follows for the years of a feasible chain
module _ (p : PlanningSheet) where
  -- a replacement has at least a year
  pub replace_forward : (y k : ℕ) → Offered p replace y k → y < k
  replace_forward y k h = ⊎_elim (λ l. omega arith) (λ l. absurd (omega arith)) h.lasting

  rising_of_offered : (y : ℕ) (ks : List ℕ) → Every (OffersActivity p) (replacements y ks) → Rising y ks
  unfolding replacements
  rising_of_offered y [] h = tt
  rising_of_offered y (k ∷ ks) h = (replace_forward y k h.0, rising_of_offered k ks h.1)

  inside_of_offered : (y : ℕ) (ks : List ℕ) → Every (OffersActivity p) (replacements y ks) → Every (λ k. k ≤ p.horizon) ks
  unfolding replacements
  inside_of_offered y [] h = tt
  inside_of_offered y (k ∷ ks) h = (h.0.inside, inside_of_offered k ks h.1)

  -- maintain and renovate are offered, and replacements lead to T: the rest of `Feasible` follows
  pub feasible-parts :
      (c : Chain)
      → Feasible p c ↔ (Offered p maintain 0 c.i × (Offered p renovate c.i c.j × Reaches p c.j c.ends))
  unfolding activities
  feasible-parts c = (
    λ h. (h.offered.0, (h.offered.1.0, record { offered = h.offered.1.1; arrived = h.arrived })),
    λ h.
        record {
          ordered = h.1.0.forward;
          rising = rising_of_offered c.j c.ends h.1.1.offered;
          offered = (h.0, (h.1.0, h.1.1.offered));
          inside = (h.0.inside, (h.1.0.inside, inside_of_offered c.j c.ends h.1.1.offered));
          arrived = h.1.1.arrived;
        },
  )

  pub ordered_of_feasible : (c : Chain) → Feasible p c → Ordered p.horizon c
  ordered_of_feasible c h =
      record { ordered = h.ordered; climbs = record { early = h.inside.1.0; rising = h.rising; inside = h.inside.1.1 } }

replacements_linked : (y : ℕ) (ks : List ℕ) → Linked y (replacements y ks) (last y ks)
unfolding replacements last
replacements_linked y [] = refl
replacements_linked y (k ∷ ks) = (refl, replacements_linked k ks)

pub feasible_linked : (p : PlanningSheet) (c : Chain) → Feasible p c → Linked 0 (activities c) p.horizon
unfolding activities
feasible_linked p c h = rw (← h.arrived) (refl, (refl, replacements_linked c.j c.ends))

-- rising years are few
rising_length : (T y : ℕ) (ks : List ℕ) → Climbs T y ks → length ks + y ≤ T
rising_length T y [] h = omega (arith, h.early)
rising_length T y (k ∷ ks) h = omega (arith, h.rising.0, rising_length T k ks (climbs_rest h))

-- so a feasible chain has at most T replacements
pub few_ends : (p : PlanningSheet) (c : Chain) → Feasible p c → length c.ends ≤ p.horizon
few_ends p c h = omega (arith, rising_length p.horizon c.j c.ends (ordered_of_feasible p c h).climbs)

pub narrow_of_feasible : (p : PlanningSheet) → p.horizon < 65_536 → (c : Chain) → Feasible p c → Narrow c
narrow_of_feasible p far c h =
    let few = few_ends p c h in
    record {
      first = omega (arith, h.inside.0);
      second = omega (arith, h.inside.1.0);
      count = omega arith;
      years = every_map _ _ (λ k early. omega arith) c.ends h.inside.1.1;
    }

-- decoding what was encoded gives the chain back, for every feasible chain of a sheet (its T is a u16) and every total field
pub decode-feasible : (p : PlanningSheet) → p.horizon < 65_536 → (c : Chain) → Feasible p c → (total : ℕ) → decode (encode total c) ≡ c
decode-feasible p far c h total = decode-encode total c (narrow_of_feasible p far c h)
