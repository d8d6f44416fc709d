-- What each way leaves of the buffers (`way_leaves`): a refusal leaves the plan, one before the words are written leaves both, and an accepted
-- call the bytes behind the plan. Assumes nothing.
use Prim.Native.Nat.{ℕ, ◌≤◌}
use mathlib.Core.Path.{◌≡◌, ap, ◌∙◌}
use mathlib.Core.List.{List}
use mathlib.Core.Logic.{◌⊎◌, inl, inr, ⊎_elim}
use native.Mathlib.Omega.{arith}
use lib.ListN.{length}
use Rattle.sheet.specs.Sheet.{sheet_of}
use Rattle.checking.proofs.PassesLaws.{checked-iff}
use Rattle.tails.specs.Words.{total_of}
use Rattle.tails.proofs.WordLaws.{years-length}
use Rattle.planning.specs.Planning.{plan_answer, plan_after, words_after}
use Rattle.planning.proofs.PlanningLaws.{words_lent}
use Rattle.planner.specs.Promises.{Ready, Leaves}
use Rattle.planner.specs.Ways.{Way, faulty, few, none, short, written}
use Rattle.planner.proofs.WayLaws.{number_of, fault_some}
use Rattle.planner.proofs.DoneLaws.{done_behind, done_length}

module _ (s plan words : List ℕ) where
  lent_length : Ready s words → length (words_after s plan words) ≡ length words
  lent_length h = ap length (words_lent s plan words ((checked-iff s).1 h.passes) h.enough) ∙ years-length total_of (sheet_of s) words

  -- a refusal after the words are written leaves the plan
  refused_leaves :
      (n : ℕ) → Ready s words → (n ≡ 11) ⊎ (n ≡ 12) → plan_after s plan words ≡ plan → Leaves n plan words (plan_after s plan words) (words_after s plan words)
  refused_leaves n h late left =
      record {
        plan_left = λ z. left;
        words_left = λ z e t. absurd (⊎_elim e t late);
        behind = λ z. absurd (⊎_elim (λ e. omega arith) (λ e. omega arith) late);
        lengths = (ap length left, lent_length h);
      }

  -- one before that leaves both
  early_leaves :
      (n : ℕ) → 1 ≤ n → plan_after s plan words ≡ plan → words_after s plan words ≡ words
      → Leaves n plan words (plan_after s plan words) (words_after s plan words)
  early_leaves n some left kept =
      record { plan_left = λ z. left; words_left = λ z e t. kept; behind = λ z. absurd (omega arith); lengths = (ap length left, ap length kept) }

pub way_leaves :
    {s plan words : List ℕ} → Way s plan words
    → Leaves (plan_answer s plan words).number plan words (plan_after s plan words) (words_after s plan words)
way_leaves {s} {plan} {words} (faulty f a l w) = early_leaves s plan words _ (fault_some s plan words a f) l w
way_leaves {s} {plan} {words} (few h m a l w) = early_leaves s plan words _ (omega (arith, number_of a)) l w
way_leaves {s} {plan} {words} (none h f a l) = refused_leaves s plan words _ h (inl (number_of a)) l
way_leaves {s} {plan} {words} (short h c r a l) = refused_leaves s plan words _ h (inr (number_of a)) l
way_leaves {s} {plan} {words} (written d) =
    let zero = number_of d.answer in
    record {
      plan_left = λ z. absurd (z zero);
      words_left = λ z. absurd (z zero);
      behind = λ z. done_behind s plan words d;
      lengths = (done_length s plan words d, lent_length s plan words d.ready);
    }
