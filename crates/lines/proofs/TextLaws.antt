-- What is left in a text: what was put to its front is read there (`put_front`, `put_length`, `put_read`); of a plan, case by case
-- (`plan_cut`, `text_short`, `lines_put`). Assumes nothing.
use Prim.Native.Nat.{ℕ, ◌≤◌, ◌<◌}
use mathlib.Core.Path.{◌≡◌, refl, ap, sym}
use mathlib.Core.Bool.{Bool, true, false, ◌&&◌}
use mathlib.Core.List.{List}
use native.Mathlib.Omega.{arith}
use lib.Dec.{leb}
use lib.ListN.{length, take}
use lib.Seq.{sets, length-take-le, length-sets}
use borrow.Author.Tests.{le-leb, lt-leb}
use Rattle.base.proofs.StoreLaws.{written_first}
use Rattle.chain.specs.PlanBytes.{plan_size, count_field}
use Rattle.lines.specs.Lines.{lines_of}
use Rattle.lines.specs.Texts.{text_for, printable, lines_after, lines_length, AtFront}
use Rattle.lines.specs.Puts.{Puts}
use Rattle.lines.proofs.PutLaws.{puts_length}

pub at_front : (n : ℕ) (text : List ℕ) → n ≤ length text → AtFront n text
at_front n text h = (h, sym (length-take-le n text h))

-- what was put to the front of a text is read there
module _ {text xs text' : List ℕ} {r : ℕ} (put : Puts text 0 xs text' r) where
  pub put_front : AtFront r text'
  put_front = at_front r text' (omega (arith, put.inside, puts_length put))

  pub put_length : r ≡ length xs
  put_length = omega (arith, put.behind)

  pub put_read : take r text' ≡ xs
  put_read = rw (put.stored, put_length) (written_first text xs (omega (arith, put.inside, put_length)))

module _ (plan text : List ℕ) where
  -- the lines are not put
  abbrev NotPut : Type 0
  NotPut = (text ≡ lines_after plan text) × ((0 ≡ lines_length plan text) × AtFront 0 text)

  not-printed : printable plan text ≡ false → NotPut
  unfolding lines_after lines_length
  not-printed e = rw e (refl, (refl, at_front 0 text (omega arith)))

  pub plan_cut : length plan < plan_size (count_field plan) → NotPut
  plan_cut h = not-printed (rw (lt-leb (plan_size (count_field plan)) (length plan) h) refl)

  both_false : (a : Bool) {b : Bool} → b ≡ false → a && b ≡ false
  both_false true e = e
  both_false false e = refl

  pub text_short : length text < text_for (count_field plan) → NotPut
  text_short h = not-printed (both_false (leb (plan_size (count_field plan)) (length plan)) (lt-leb (text_for (count_field plan)) (length text) h))

  -- they are put
  pub lines_put :
      plan_size (count_field plan) ≤ length plan → text_for (count_field plan) ≤ length text
      → (text' : List ℕ) (r : ℕ) → Puts text 0 (lines_of plan) text' r
      → (text' ≡ lines_after plan text) × ((r ≡ lines_length plan text) × AtFront r text')
  unfolding lines_after lines_length
  lines_put whole room text' r put =
      rw (le-leb (plan_size (count_field plan)) (length plan) whole, le-leb (text_for (count_field plan)) (length text) room)
      (put.stored, (put_length put, put_front put))

  -- where they are put, and only there
  pub puts_of_lines :
      plan_size (count_field plan) ≤ length plan → text_for (count_field plan) ≤ length text
      → (text' : List ℕ) (r : ℕ) → text' ≡ lines_after plan text → r ≡ lines_length plan text → AtFront r text' → Puts text 0 (lines_of plan) text' r
  unfolding lines_after lines_length
  puts_of_lines whole room text' r e n f =
      let t = le-leb (plan_size (count_field plan)) (length plan) whole in
      let u = le-leb (text_for (count_field plan)) (length text) room in
      let stored : text' ≡ sets text 0 (lines_of plan) = rw (t, u) at e in
      let long : r ≡ length (lines_of plan) = rw (t, u) at n in
      record { stored = stored; behind = omega arith; inside = omega (arith, f.0, ap length stored, length-sets text 0 (lines_of plan)) }
