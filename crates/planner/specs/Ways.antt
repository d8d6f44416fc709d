-- The ways in which planning ends: a faulty sheet, too few words, no chain, a buffer that is too short, a plan written; and what is said of
-- the call in each. `WayLaws.antt` shows that every call ends in one of them. Definitions only.
use Rattle.std.specs.Prelude.{ℕ, ◌≤◌, ◌<◌, ◌≡◌, List, length}
use Rattle.std.proofs.lemmas.List.Edits.{sets}
use Rattle.base.specs.Answer.{accepted, refused}
use Rattle.sheet.specs.Sheet.{sheet_of}
use Rattle.checking.specs.Refusals.{checked}
use Rattle.checking.specs.Passes.{Passes}
use Rattle.chain.specs.Chain.{Chain, Feasible, rounded_total}
use Rattle.chain.specs.ChosenChain.{ChosenChain}
use Rattle.chain.specs.PlanBytes.{plan_length, encode}
use Rattle.tails.specs.Words.{words_needed}
use Rattle.planning.specs.Planning.{found, plan_answer, plan_after, words_after}
use Rattle.planner.specs.Promises.{Ready}

-- a plan was written: there is a chosen chain, the buffer is long enough for it, and its rounded total is answered
pub record Done (s plan words : List ℕ) : Type 0 where
  pub ready : Ready s words
  pub chosen : ChosenChain (sheet_of s) (found (sheet_of s))
  pub room : plan_length (found (sheet_of s)) ≤ length plan
  pub answer : plan_answer s plan words ≡ accepted (rounded_total (sheet_of s) (found (sheet_of s)))
  pub written : plan_after s plan words ≡ sets plan 0 (encode (rounded_total (sheet_of s) (found (sheet_of s))) (found (sheet_of s)))

-- what is said of the call in each way
pub data Way (s plan words : List ℕ) : Type 0 where
  faulty :
      (Passes s → ⊥) → plan_answer s plan words ≡ checked s → plan_after s plan words ≡ plan → words_after s plan words ≡ words → Way s plan words
  few :
      Passes s → length words < words_needed → plan_answer s plan words ≡ refused 10 3 → plan_after s plan words ≡ plan → words_after s plan words ≡ words
      → Way s plan words
  none :
      Ready s words → ((c : Chain) → Feasible (sheet_of s) c → ⊥) → plan_answer s plan words ≡ refused 11 3 → plan_after s plan words ≡ plan
      → Way s plan words
  short :
      Ready s words → ChosenChain (sheet_of s) (found (sheet_of s)) → length plan < plan_length (found (sheet_of s))
      → plan_answer s plan words ≡ refused 12 3 → plan_after s plan words ≡ plan → Way s plan words
  written : Done s plan words → Way s plan words
