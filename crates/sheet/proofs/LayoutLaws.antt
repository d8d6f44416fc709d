-- Laws of `Layout.antt`: a sheet of a right length is sized (`sized`), and each of its three records stands in it (`record_at_lem`). Assumes nothing.
use Prim.Native.Nat.{ℕ, ◌+◌, ◌*◌, ◌≤◌, ◌<◌}
use mathlib.Core.Path.{◌≡◌, refl}
use mathlib.Core.Bool.{Bool, true, false, Bool-discrete, not-eq-not, or-false, false≢true}
use mathlib.Core.List.{List}
use mathlib.Core.Logic.{by_cases}
use native.Mathlib.Omega.{arith}
use lib.Dec.{eqb}
use lib.ListN.{length}
use borrow.Author.Tests.{eqb-true}
use Rattle.sheet.specs.Layout.{length_ok, is_long, record_length, record_start, Sized, RecordAt}

pub sized : (s : List ℕ) → length_ok (length s) ≡ true → Sized s
unfolding record_length
sized s ok =
    by_cases (Bool-discrete (is_long s) true)
    (λ t. let e = eqb-true (length s) 302 t in record { whole = rw t (omega arith); least = rw t (omega arith) })
    (λ f.
    let t : is_long s ≡ false = not-eq-not.0 f in
    let e = eqb-true (length s) 278 (rw (t, or-false (eqb (length s) 278)) at ok) in
    record { whole = rw t (omega arith); least = rw t (omega arith) })

record_within :
    (long : Bool) (n k : ℕ) → 11 + 3 * record_length long ≡ n → k < 3
    → (record_start long k + 89 ≤ n) × (long ≡ true → record_start long k + 97 ≤ n)
unfolding record_length
record_within true n k e h = (omega arith, λ t. omega arith)
record_within false n k e h = (omega arith, λ t. absurd (false≢true t))

pub record_at_lem : (s : List ℕ) (k : ℕ) → Sized s → k < 3 → (long : Bool) → long ≡ is_long s → RecordAt s k (record_start long k)
record_at_lem s k ok h long e =
    let within = record_within (is_long s) (length s) k ok.whole h in
    rw e (record { starts = refl; inside = within.0; longer = within.1 })
