-- Laws of bytes that are put into a text: a copy (`puts_copied`), and one text behind another (`puts_more`, `puts_left`), in a text that keeps
-- its length (`puts_length`). Assumes nothing.
use Prim.Native.Nat.{ℕ, ◌+◌, ◌-◌, ◌≤◌}
use mathlib.Core.Path.{◌≡◌, ap, sym, ◌∙◌}
use mathlib.Core.List.{List, ◌++◌, append_assoc}
use native.Mathlib.Omega.{arith}
use lib.ListN.{length, length-append}
use lib.Seq.{sets, sets-eq, length-sets, drop-drop}
use borrow.Rule.Slice.PartMut.{put_mid}
use Rattle.base.proofs.StoreLaws.{sets-append}
use Rattle.lines.specs.Puts.{Puts}

-- a copy into a part of a text
pub puts_copied :
    (l xs : List ℕ) (at : ℕ) {part : List ℕ} {end : ℕ}
    → part ≡ xs → end ≡ at + length xs → end ≤ length l → Puts l at xs (put_mid at (end - at) l part) end
puts_copied l xs at {end = end} copied behind inside =
    let long : at + length xs ≤ length l = omega arith in
    let size : end - at ≡ length xs = omega arith in
    record { stored = rw (copied, size, sets-eq xs l at long, drop-drop, append_assoc); behind = behind; inside = inside }

-- a text keeps its length
pub puts_length : {l l' : List ℕ} {at end : ℕ} {xs : List ℕ} → Puts l at xs l' end → length l' ≡ length l
puts_length {l = l} {at = at} {xs = xs} p = ap length p.stored ∙ length-sets l at xs

-- two texts, the second where the first ends, are one
pub puts_more :
    {l l' l'' : List ℕ} {at at' at'' : ℕ} {xs ys : List ℕ}
    → Puts l at xs l' at' → Puts l' at' ys l'' at'' → Puts l at (xs ++ ys) l'' at''
puts_more {l = l} {at = at} {xs = xs} {ys = ys} p q =
    let long = length-append xs ys in
    record {
      stored = q.stored ∙ rw (p.stored, p.behind) (sym (sets-append l at xs ys));
      behind = q.behind ∙ omega (arith, p.behind);
      inside = omega (arith, q.inside, puts_length p);
    }

-- of a text that begins with what was put, the rest is left to be put behind it
pub puts_left :
    {l l' : List ℕ} {at at' : ℕ} {xs : List ℕ} (ys : List ℕ)
    → Puts l at xs l' at' → (sets l' at' ys ≡ sets l at (xs ++ ys)) × (at' + length ys ≡ at + length (xs ++ ys))
puts_left {l = l} {at = at} {xs = xs} ys p =
    (rw (p.stored, p.behind) (sym (sets-append l at xs ys)), omega (arith, p.behind, length-append xs ys))
