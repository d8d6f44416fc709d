-- What `checked` answers: its total is 0, its number at most 9 (`checked_total`, `checked_number_le`); 0 comes with option 3 (`checked-accepted`);
-- and it packs (`checked_packs`). Assumes nothing.
use Prim.Native.Nat.{ℕ, ◌≤◌, ◌<◌}
use mathlib.Core.Path.{◌≡◌, refl}
use mathlib.Core.List.{List}
use native.Mathlib.Omega.{arith}
use lib.Dec.{lit≤, lit<}
use Rattle.base.specs.Answer.{accepted, refused, ◌unless◌else◌, Packs}
use Rattle.base.specs.declared.Answer.{Answer}
use Rattle.base.proofs.AnswerLaws.{unless_le, answered_all, or_else_all, accepted_packs, refused_packs}
use Rattle.sheet.specs.Sheet.{OptionRecord, PlanningSheet, sheet_of}
use Rattle.checking.specs.Refusals.{overhaul_ok, header_number, fields_number, overhaul_answer, option_answer, checked}
use Rattle.checking.proofs.FirstLaws.{first_all}

header-le : (s : List ℕ) → header_number s ≤ 9
unfolding header_number
header-le s =
    unless_le 1 _ _ 9 (lit≤ tt) (unless_le 2 _ _ 9 (lit≤ tt) (unless_le 3 _ _ 9 (lit≤ tt) (unless_le 4 _ _ 9 (lit≤ tt) (lit≤ tt))))

fields_le : (r : ℕ) (o : OptionRecord) → fields_number r o ≤ 9
unfolding fields_number
fields_le r o =
    unless_le 5 _ _ 9 (lit≤ tt)
    (unless_le 6 _ _ 9 (lit≤ tt) (unless_le 7 _ _ 9 (lit≤ tt) (unless_le 8 _ _ 9 (lit≤ tt) (unless_le 9 _ _ 9 (lit≤ tt) (lit≤ tt)))))

-- what holds of an accepted answer and of refusals 1 to 9 at options up to 3 holds of a checked sheet's answer
module _ (P : Answer → Type 0) (a : P (accepted 0)) (r : (n k : ℕ) → (n ≡ 0 → ⊥) → n ≤ 9 → k ≤ 3 → P (refused n k)) where
  overhaul_all : (o : OptionRecord) (k j : ℕ) → k < 3 → P (overhaul_answer o k j)
  unfolding overhaul_answer
  overhaul_all o k j h =
      let n = 9 unless overhaul_ok o j else 0 in
      answered_all P n k a (λ z. r n k z (unless_le 9 (overhaul_ok o j) 0 9 (lit≤ tt) (lit≤ tt)) (omega arith))

  option_all : (p : PlanningSheet) (k : ℕ) → k < 3 → P (option_answer p k)
  unfolding option_answer
  option_all p k h =
      or_else_all P _ _ (answered_all P _ k a (λ z. r (fields_number p.rate (p.option k)) k z (fields_le p.rate (p.option k)) (omega arith)))
      (first_all P 8 _ a (λ j l. overhaul_all (p.option k) k j h))

  checked_all : (s : List ℕ) → P (checked s)
  unfolding checked
  checked_all s =
      or_else_all P _ _ (answered_all P _ 3 a (λ z. r (header_number s) 3 z (header-le s) (lit≤ tt)))
      (first_all P 3 _ a (λ k l. option_all (sheet_of s) k l))

pub checked_total : (s : List ℕ) → (checked s).total ≡ 0
checked_total = checked_all (λ (a : Answer). a.total ≡ 0) refl (λ n k z h l. refl)

pub checked_number_le : (s : List ℕ) → (checked s).number ≤ 9
checked_number_le = checked_all (λ (a : Answer). a.number ≤ 9) (lit≤ tt) (λ n k z h l. h)

pub checked-accepted : (s : List ℕ) → (checked s).number ≡ 0 → checked s ≡ accepted 0
checked-accepted = checked_all (λ (a : Answer). a.number ≡ 0 → a ≡ accepted 0) (λ e. refl) (λ n k z h l e. absurd (z e))

pub checked_packs : (s : List ℕ) → Packs (checked s)
checked_packs = checked_all Packs (accepted_packs 0 (lit< tt)) (λ n k z h l. refused_packs n (omega arith) k (omega arith))
