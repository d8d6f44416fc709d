-- The range of what planning answers: its number is at most 12 (`plan_number_le`), and it packs (`plan_packs`). Assumes nothing.
use Prim.Native.Nat.{ℕ, ◌≤◌}
use mathlib.Core.List.{List}
use native.Mathlib.Omega.{arith}
use Rattle.base.specs.Answer.{Packs}
use Rattle.base.specs.declared.Answer.{Answer}
use Rattle.base.proofs.AnswerLaws.{accepted_packs, refused_packs}
use Rattle.sheet.specs.Sheet.{sheet_of}
use Rattle.checking.proofs.RangeLaws.{checked_number_le, checked_packs}
use Rattle.checking.proofs.FitLaws.{fit}
use Rattle.chain.proofs.TotalLaws.{rounded_total-lt}
use Rattle.planning.specs.Planning.{found, plan_answer}
use Rattle.planner.proofs.WayLaws.{way, way_all}

module _ (s plan words : List ℕ) where
  pub plan_packs : Packs (plan_answer s plan words)
  plan_packs =
      way_all Packs (λ _. checked_packs s) (λ _ n l. refused_packs n (omega arith) 3 (omega arith))
      (λ d. accepted_packs _ (rounded_total-lt (sheet_of s) (fit s d.ready.passes) (found (sheet_of s)) d.chosen.feasible))
      (way s plan words)

  pub plan_number_le : (plan_answer s plan words).number ≤ 12
  plan_number_le =
      way_all (λ (a : Answer). a.number ≤ 12) (λ _. omega (arith, checked_number_le s)) (λ _ n l. l) (λ d. omega arith) (way s plan words)
