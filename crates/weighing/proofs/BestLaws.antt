-- The running choice on numbers is what the code keeps of the choice of entries: of one end weighed (`weigh-in_short`), and of all that are
-- offered (`over_in_short`). Assumes nothing.
use Prim.Native.Nat.{ℕ, zero, suc, ◌+◌, ◌≤◌, ◌<◌}
use mathlib.Core.Path.{◌≡◌, refl, ◌∙◌}
use mathlib.Core.Bool.{Bool, true, false, cond}
use mathlib.Core.List.{◌∷◌}
use native.Mathlib.Omega.{arith}
use lib.Dec.{leb, eqb}
use Rattle.choice.specs.Running.{Entry, no_total, entries, weigh, over_ends}
use Rattle.weighing.specs.Best.{in_short, numbers}
use Rattle.weighing.specs.Ahead.{Ahead}
use Rattle.weighing.specs.declared.Best.{Best}
use Rattle.weighing.proofs.AheadLaws.{weigh_ahead}

in_short-cond : (b : Bool) (x y : Entry) → cond b (in_short x) (in_short y) ≡ in_short (cond b x y)
in_short-cond true x y = refl
in_short-cond false x y = refl

pub weigh-in_short :
    (best : Entry) (cost e : ℕ) (behind : Entry) → weigh numbers (in_short best) cost e behind.total ≡ in_short (weigh entries best cost e behind)
unfolding weigh
weigh-in_short best cost e behind =
    let taken : Entry = record { total = cost + behind.total; ends = e ∷ behind.ends } in
    rw (in_short-cond (leb (cost + behind.total) best.total) taken best)
    (in_short-cond (eqb behind.total no_total) best (cond (leb (cost + behind.total) best.total) taken best))

cond-in_short : (b : Bool) (x : Best) (y z : Entry) → (b ≡ true → x ≡ in_short y) → cond b x (in_short z) ≡ in_short (cond b y z)
cond-in_short true x y z h = h refl
cond-in_short false x y z h = refl

-- by the totals of the entries behind the ends that are offered, with what ending there adds
module _ (offered : ℕ → Bool) (cost more words : ℕ → ℕ) (behind : ℕ → Entry) (s : ℕ) (best : Entry) where
  pub over_in_short :
      (k : ℕ) → ((e : ℕ) → s ≤ e → e < s + k → offered e ≡ true → Ahead (words e) (more e) (behind e))
      → over_ends numbers offered cost words s (in_short best) k ≡ in_short (over_ends entries offered (λ e. cost e + more e) behind s best k)
  unfolding over_ends
  over_in_short zero h = refl
  over_in_short (suc k) h =
      let e = s + k in
      let so_far = over_ends entries offered (λ e. cost e + more e) behind s best k in
      rw (over_in_short k (λ e l m. h e l (omega arith)))
      (cond-in_short (offered e) _ _ _ (λ on.
      let held = h e (omega arith) (omega arith) on in
      rw held.0
      (weigh_ahead (behind e).total (in_short so_far) (cost e) e (more e) held.1 ∙ weigh-in_short so_far (cost e + more e) e (behind e))))
