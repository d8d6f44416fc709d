-- Laws of `Outcome.antt`. In order:
--     place_lt, place_at      an activity is one of three options, and its place is where it stands among them
--     number_pos, number_lt, option_lt      a refusal's number is 1 to 16, its option at most 3
--     accepted_number, refused_number, passed_number      a call is accepted exactly when its number is 0
--     passed_on      a refusal is passed on as it is
--     accepts, ok_total, priced_exactly, near_total, total_near      what is said of an answer's number and total, said of the outcome
-- Assumes nothing.
use Prim.Native.Nat.{ℕ, zero, suc, ◌<◌}
use mathlib.Core.Path.{◌≡◌, refl, ap}
use mathlib.Core.Bool.{false≢true}
use mathlib.Core.Logic.Iff
use mathlib.Core.Logic.{◌↔◌}
use native.Mathlib.Omega.{arith}
use Rattle.std.specs.Prelude.{Result, Ok, Err, IsOk, IfOk, [], ◌∷◌, slice_index_or}
use Rattle.base.specs.declared.Activity.{Activity}
use Rattle.base.specs.declared.Activity.TheVariants.{Maintain, Renovate, Replace}
use Rattle.base.specs.declared.Refusal.{Refusal}
use Rattle.base.specs.declared.Refusal.TheVariants.{Length, Mark, Horizon, Rate, Lives, Amount, Inflation, Ageing, Overhauls, Words, NoChain, PlanLength, NotOffered, NotAChain, GeneralInflation, ListLength}
use Rattle.base.specs.Outcome.{place, number_of, answer_by, answer_of}

pub place_lt : (a : Activity) → place a < 3
place_lt Maintain = omega arith
place_lt Renovate = omega arith
place_lt Replace = omega arith

pub place_at : (k : ℕ) → k < 3 → place (slice_index_or (Maintain ∷ Renovate ∷ Replace ∷ []) k Maintain) ≡ k
place_at zero h = refl
place_at (suc zero) h = refl
place_at (suc (suc zero)) h = refl
place_at (suc (suc (suc k))) h = absurd (omega arith)

pub number_pos : (r : Refusal) → 0 < number_of r
number_pos Length = omega arith
number_pos Mark = omega arith
number_pos Horizon = omega arith
number_pos Rate = omega arith
number_pos (Lives a) = omega arith
number_pos (Amount a) = omega arith
number_pos (Inflation a) = omega arith
number_pos (Ageing a) = omega arith
number_pos (Overhauls a) = omega arith
number_pos Words = omega arith
number_pos NoChain = omega arith
number_pos PlanLength = omega arith
number_pos NotOffered = omega arith
number_pos NotAChain = omega arith
number_pos GeneralInflation = omega arith
number_pos ListLength = omega arith

-- of an outcome whose total is read in any way
module _ {T : Type 0} (total : T → ℕ) where
  pub accepted_number : (r : Result T Refusal) → ((answer_by total r).number ≡ 0) ↔ IsOk r
  accepted_number (Ok t) = (λ e. refl, λ o. refl)
  accepted_number (Err x) = (λ e. let p = number_pos x in absurd (omega arith), λ o. absurd (false≢true o))

  pub refused_number : (r : Result T Refusal) (e : Refusal) → r ≡ Err e → (answer_by total r).number ≡ 0 → ⊥
  refused_number r e was n =
      let p = number_pos e in
      let m : number_of e ≡ 0 = rw was at n in
      omega arith

  pub passed_number : (r : Result T Refusal) (t : T) → r ≡ Ok t → (answer_by total r).number ≡ 0
  passed_number r t was = rw was refl

  -- a refusal is passed on by `?` as it is
  pub passed_on :
      {U : Type 0} (other : U → ℕ) (r : Result T Refusal) (h : Result U Refusal) (e y : Refusal) → h ≡ Err e → r ≡ Err y → y ≡ e →
      answer_by total r ≡ answer_by other h
  passed_on other r h e y was is same = rw (is, same, was) refl

-- what is said of an answer's number and total, said of the outcome
module _ (r : Result ℕ Refusal) where
  pub accepts : {P : Type 0} → ((answer_of r).number ≡ 0) ↔ P → IsOk r ↔ P
  accepts h = Iff.trans (Iff.symm (accepted_number (λ (t : ℕ). t) r)) h

pub ok_total : (r : Result ℕ Refusal) (t : ℕ) → (((answer_of r).number ≡ 0) × ((answer_of r).total ≡ t)) ↔ (r ≡ Ok t)
ok_total (Ok u) t = (λ e. ap Ok e.1, λ e. (refl, cc))
ok_total (Err x) t = (λ e. let p = number_pos x in absurd (omega arith), λ e. absurd (cc))

pub priced_exactly :
    (r : Result ℕ Refusal) {P : ℕ → Type 0} → ((total : ℕ) → (((answer_of r).number ≡ 0) × ((answer_of r).total ≡ total)) ↔ P total) →
    (total : ℕ) → (r ≡ Ok total) ↔ P total
priced_exactly r h total = Iff.trans (Iff.symm (ok_total r total)) (h total)

pub near_total : (r : Result ℕ Refusal) (N : ℕ → Type 0) → ((answer_of r).number ≡ 0 → N (answer_of r).total) → IfOk r N
near_total (Ok t) N h = h refl
near_total (Err x) N h = tt

pub total_near : (r : Result ℕ Refusal) (N : ℕ → Type 0) → IfOk r N → (answer_of r).number ≡ 0 → N (answer_of r).total
total_near (Ok t) N h e = h
total_near (Err x) N h e = let p = number_pos x in absurd (omega arith)
