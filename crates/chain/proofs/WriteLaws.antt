-- Laws of a plan that is stored: its header and then its end years (`sets-encode`), of which one more and none are stored, as a loop does it
-- (`sets_end`, `sets_no_end`). Assumes nothing.
use Prim.Native.Nat.{ℕ, suc, ◌+◌, ◌*◌, ◌<◌}
use mathlib.Core.Path.{◌≡◌}
use mathlib.Core.List.{List}
use native.Mathlib.Numerals.{add-one}
use native.Mathlib.Omega.{arith}
use lib.ListN.{length, get_or, drop}
use lib.Seq.{sets, drop-cons, drop-length}
use Rattle.base.specs.Numbers.{bytes_of}
use Rattle.base.proofs.StoreLaws.{sets-append}
use Rattle.base.proofs.NumberLaws.{bytes_of-length}
use Rattle.chain.specs.Chain.{Chain}
use Rattle.chain.specs.PlanBytes.{end_bytes, header, encode}

-- a plan: its header, and its end years behind that
pub sets-encode :
    (plan : List ℕ) (total : ℕ) (c : Chain)
    → sets plan 0 (encode total c) ≡ sets (sets plan 0 (header total c.i c.j (length c.ends))) 19 (end_bytes c.ends)
unfolding encode header bytes_of
sets-encode plan total c = sets-append plan 0 (header total c.i c.j (length c.ends)) (end_bytes c.ends)

-- the end years that are left to store, those from k on: one more, and none
module _ (l ends : List ℕ) (k : ℕ) where
  pub sets_end :
      k < length ends
      → sets l (19 + 2 * k) (end_bytes (drop k ends))
      ≡ sets (sets l (19 + 2 * k) (bytes_of 2 (get_or ends k 0))) (19 + 2 * (k + 1)) (end_bytes (drop (k + 1) ends))
  unfolding end_bytes
  sets_end h =
      let at = 19 + 2 * k in
      let e : 19 + 2 * (k + 1) ≡ at + 2 = omega arith in
      rw (drop-cons ends k 0 h, e, add-one k)
      (rw bytes_of-length at (sets-append l at (bytes_of 2 (get_or ends k 0)) (end_bytes (drop (suc k) ends))))

  pub sets_no_end : k ≡ length ends → sets l (19 + 2 * k) (end_bytes (drop k ends)) ≡ l
  unfolding end_bytes
  sets_no_end e = rw (e, drop-length ends)
