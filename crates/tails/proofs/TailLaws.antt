-- The table holds what document 01 asks. Its entry of T is empty (`tail_last`), that of an earlier year the best end by the later entries
-- (`tail_step`). The best end of an option is the entry of the lists that begin with it (`best_holds`); so an entry of the table has the chosen
-- list of replacements from its year to T (`tail_holds`), and a total that is at most what the years left can cost (`tail_le`), which is less
-- than 2^64 − 1 (`room-lt`): the total is the least (`tail_cheapest`). Assumes nothing.
use Prim.Native.Nat.{ℕ, suc, ◌+◌, ◌-◌, ◌*◌, ◌≤◌, ◌<◌}
use mathlib.Core.Path.{◌≡◌, refl}
use mathlib.Core.List.{List, [], ◌∷◌}
use mathlib.Core.Bool.{true}
use mathlib.Core.Logic.{◌↔◌, inr}
use native.Mathlib.Omega.{arith}
use Rattle.base.specs.Lists.{sum_of}
use Rattle.sheet.specs.Sheet.{PlanningSheet, replace}
use Rattle.sheet.specs.Parsed.{parsed}
use Rattle.sheet.proofs.ParsedLaws.{horizon_read}
use Rattle.checking.specs.Fit.{Fit}
use Rattle.costing.specs.Arc.{cost_to}
use Rattle.costing.specs.Offered.{offered}
use Rattle.costing.specs.Fit.{yearly}
use Rattle.costing.proofs.SheetArcLaws.{cost-le}
use Rattle.costing.proofs.OfferedLaws.{offered-iff}
use Rattle.choice.specs.Choice.{NotWorse}
use Rattle.choice.specs.Running.{Entry, no_total, no_entry, entries, Holds, Then, then_weight, some}
use Rattle.choice.specs.Table.{nothing_left}
use Rattle.choice.proofs.HoldsLaws.{holds_none, holds_chosen, holds_least, holds_same}
use Rattle.choice.proofs.RunningLaws.{over_same}
use Rattle.choice.proofs.LeastLaws.{over_holds}
use Rattle.choice.proofs.TableLaws.{entry-last, entry_step, every_year}
use Rattle.chain.specs.Chain.{replacements, last, Reaches, arcs_of, replaced}
use Rattle.chain.proofs.FeasibleLaws.{replace_forward}
use Rattle.tails.specs.Tail.{best_end, tail_from}
use Rattle.tails.specs.Cheapest.{Cheapest}

module _ (p : PlanningSheet) where
  -- an offered replacement ends after the year in which it starts, and not after T
  offered_later : (y e : ℕ) → offered p replace y e ≡ true → (y < e) × (e ≤ p.horizon)
  offered_later y e on = let o = (offered-iff p replace y e).0 on in (replace_forward p y e o, o.inside)

  -- so the best end is by the entries of later years alone
  later_only :
      (g g' : ℕ → Entry) (y : ℕ) → y < p.horizon → ((e : ℕ) → y < e → e ≤ p.horizon → g e ≡ g' e)
      → best_end p replace g y ≡ best_end p replace g' y
  unfolding best_end
  later_only g g' y h same =
      over_same entries (offered p replace y) (offered p replace y) (cost_to p replace y) (cost_to p replace y) g g' y no_entry (suc (p.horizon - y))
      (λ e l u. refl) (λ e l u on. refl) (λ e l u on. let o = offered_later y e on in same e o.0 o.1)

  pub tail_last : tail_from p p.horizon ≡ nothing_left
  unfolding tail_from
  tail_last = entry-last p.horizon (best_end p replace)

  pub tail_step : (y : ℕ) → y < p.horizon → tail_from p y ≡ best_end p replace (tail_from p) y
  unfolding tail_from
  tail_step = entry_step p.horizon (best_end p replace) later_only

  -- from a year before T, the lists that reach T begin with an offered end and reach T from there
  reaches_then : (y : ℕ) → y < p.horizon → (ks : List ℕ) → Then (offered p replace y) (Reaches p) ks ↔ Reaches p y ks
  unfolding replacements last
  reaches_then y h [] = (λ m. absurd m, λ m. absurd (omega (arith, m.arrived)))
  reaches_then y h (k ∷ ks) =
      let iff = offered-iff p replace y k in (
        λ m. record { offered = (iff.0 m.0, m.1.offered); arrived = m.1.arrived },
        λ m. (iff.1 m.offered.0, record { offered = m.offered.1; arrived = m.arrived }),
      )

  replaced_then :
      (y : ℕ) (ks : List ℕ) → Then (offered p replace y) (Reaches p) ks → then_weight (cost_to p replace y) (replaced p) ks ≡ replaced p y ks
  unfolding sum_of arcs_of replacements
  replaced_then y [] m = refl
  replaced_then y (k ∷ ks) m = refl

  -- the most that the years from y to T can cost
  abbrev room : ℕ → ℕ
  room y = (p.horizon - y) * yearly

  abbrev HoldsAt : ℕ → Entry → Type 0
  HoldsAt y t = Holds (Reaches p y) (replaced p y) (room y) t

  -- from T only the empty list reaches T
  holds_last : HoldsAt p.horizon nothing_left
  unfolding sum_of arcs_of replacements last
  holds_last = some (record { member = record { offered = tt; arrived = refl }; least = least }) refl (omega arith)
    where
      least : (ks : List ℕ) → Reaches p p.horizon ks → NotWorse (replaced p p.horizon) [] ks
      least [] m = inr (refl, tt)
      least (k ∷ ks) m = let o = m.offered.0 in absurd (omega (arith, replace_forward p p.horizon k o, o.inside))

  module _ (fit : Fit (parsed p)) where
    pub room-lt : (y : ℕ) → (p.horizon - y) * yearly < no_total
    room-lt y = omega (arith, fit.horizon_high, horizon_read (parsed p) p refl)

    -- the best end of an option from y, where the entries behind the ends are those of the lists that go on from there
    pub best_holds :
        (option y : ℕ) (behind : ℕ → Entry) (Rest : ℕ → List ℕ → Type 0) (rest : ℕ → List ℕ → ℕ)
        → ((e : ℕ) → offered p option y e ≡ true → Holds (Rest e) (rest e) ((p.horizon - e) * yearly) (behind e))
        → Holds (Then (offered p option y) Rest) (then_weight (cost_to p option y) rest) ((p.horizon - y) * yearly) (best_end p option behind y)
    unfolding best_end
    best_holds option y behind Rest rest held =
        over_holds (offered p option y) (cost_to p option y) behind Rest rest room (room y) (room-lt y) held fits y (suc (p.horizon - y))
        (λ e on. let o = (offered-iff p option y e).0 on in (o.forward, omega (arith, o.forward, o.inside)))
      where
        fits : (e : ℕ) → offered p option y e ≡ true → cost_to p option y e + room e ≤ room y
        fits e on =
            let o = (offered-iff p option y e).0 on in
            let most = cost-le p option y e fit o.known o.forward o.inside in
            omega (arith, o.forward, o.inside)

    holds_step :
        (y : ℕ) → y < p.horizon → ((e : ℕ) → y < e → e ≤ p.horizon → HoldsAt e (tail_from p e)) → HoldsAt y (best_end p replace (tail_from p) y)
    holds_step y h later =
        holds_same (Then (offered p replace y) (Reaches p)) (Reaches p y) (then_weight (cost_to p replace y) (replaced p)) (replaced p y)
        (reaches_then y h) (replaced_then y) (room y) _
        (best_holds replace y (tail_from p) (Reaches p) (replaced p) (λ e on. let o = offered_later y e on in later e o.0 o.1))

    pub tail_holds : (y : ℕ) → y ≤ p.horizon → Holds (Reaches p y) (replaced p y) ((p.horizon - y) * yearly) (tail_from p y)
    unfolding tail_from
    tail_holds = every_year p.horizon (best_end p replace) later_only HoldsAt holds_last holds_step

    pub tail_le : (y : ℕ) → y ≤ p.horizon → ((tail_from p y).total ≡ no_total → ⊥) → (tail_from p y).total ≤ (p.horizon - y) * yearly
    tail_le y l there = (holds_chosen _ _ _ _ (tail_holds y l) there).2

    pub tail_cheapest : (y : ℕ) → y ≤ p.horizon → Cheapest p y (tail_from p y).total
    tail_cheapest y l =
        let holds = tail_holds y l in
        record {
          none = holds_none _ _ _ _ holds (room-lt y);
          attained = λ there. let c = holds_chosen _ _ _ _ holds there in ((tail_from p y).ends, (c.0.member, c.1));
          least = holds_least _ _ _ _ holds (room-lt y);
        }
