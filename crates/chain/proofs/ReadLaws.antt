-- What is read from the front of a buffer when a plan was written there: its bytes (`written_plan`), and its count, its total and its chain
-- (`written_count`, `written_total`, `written_decode`). Assumes nothing.
use Prim.Native.Nat.{ℕ, zero, suc, ◌+◌, ◌*◌, ◌≤◌, ◌<◌}
use mathlib.Core.Path.{◌≡◌, refl, ap, sym, ◌∙◌}
use mathlib.Core.List.{List}
use native.Mathlib.Omega.{arith}
use lib.ListN.{length, take}
use lib.Seq.{sets}
use Rattle.base.proofs.StoreLaws.{written_first}
use Rattle.base.proofs.NumberLaws.{number_take, u16_take}
use Rattle.chain.specs.Chain.{Chain}
use Rattle.chain.specs.PlanBytes.{plan_size, encode, total_field, count_field, ends_at, decode, Narrow}
use Rattle.chain.proofs.PlanBytesLaws.{encode-length, total_field-encode, count_field-encode, decode-encode}

-- so for end years and the whole chain
module _ (s : List ℕ) (n : ℕ) where
  ends_take : (at count : ℕ) → at + 2 * count ≤ n → ends_at (take n s) at count ≡ ends_at s at count
  unfolding ends_at
  ends_take at zero h = refl
  ends_take at (suc count) h = rw (u16_take s n at (omega arith), ends_take (at + 2) count (omega arith))

  decode-take : plan_size (count_field s) ≤ n → decode (take n s) ≡ decode s
  unfolding decode
  decode-take h =
      let i = u16_take s n 13 (omega arith) in
      let j = u16_take s n 15 (omega arith) in
      let m = u16_take s n 17 (omega arith) in
      let ends = ap (ends_at (take n s) 19) m ∙ ends_take 19 (count_field s) h in
      λ k. record { i = i k; j = j k; ends = ends k }

-- a plan that was written to a buffer which is long enough
module _ (plan : List ℕ) (total : ℕ) (c : Chain) (room : plan_size (length c.ends) ≤ length plan) where
  abbrev after : List ℕ
  after = sets plan 0 (encode total c)

  written_first_bytes : take (plan_size (length c.ends)) after ≡ encode total c
  written_first_bytes =
      let long = encode-length total c in
      ap (λ (n : ℕ). take n after) (sym long) ∙ written_first plan (encode total c) (omega arith)

  pub written_total : total < 18_446_744_073_709_551_616 → total_field after ≡ total
  written_total fits =
      sym (number_take after (plan_size (length c.ends)) 5 8 (omega arith)) ∙ ap total_field written_first_bytes ∙ total_field-encode total c fits

  module _ (narrow : Narrow c) where
    pub written_count : count_field after ≡ length c.ends
    written_count =
        sym (u16_take after (plan_size (length c.ends)) 17 (omega arith)) ∙ ap count_field written_first_bytes ∙ count_field-encode total c narrow

    pub written_plan : take (plan_size (count_field after)) after ≡ encode total c
    written_plan = ap (λ (m : ℕ). take (plan_size m) after) written_count ∙ written_first_bytes

    pub written_decode : decode after ≡ c
    written_decode =
        let n = plan_size (length c.ends) in
        sym (decode-take after n (omega (arith, written_count))) ∙ ap decode written_first_bytes ∙ decode-encode total c narrow
