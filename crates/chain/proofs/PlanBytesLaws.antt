-- Laws of plan bytes: the test of a plan's shape and the facts agree (`shaped-iff`); how many bytes there are (`encode-length`); what was encoded
-- is read back (`total_field-encode`, `count_field-encode`, `encode-shaped`, `decode-encode`); bytes of a plan's shape are the encoding of what is
-- read from them (`encode-decode`); one end more and none, at any place (`ends_next`, `ends_none`) and as a loop over the ends of a plan reads
-- them (`ends_more`, `ends_done`). Assumes nothing.
use Prim.Native.Nat.{ℕ, zero, suc, ◌+◌, ◌-◌, ◌*◌, ◌<◌, ◌≤◌}
use mathlib.Core.Path.{◌≡◌, refl, sym, ap, ap₂, ◌∙◌}
use mathlib.Core.Bool.{true}
use mathlib.Core.Logic.{◌↔◌}
use mathlib.Core.List.{List, [], ◌∷◌}
use native.Mathlib.Omega.{arith}
use lib.ListN.{length, get_or, take, drop, length-append}
use Rattle.base.specs.Lists.{Every}
use Rattle.base.specs.Numbers.{u16_at, bytes_of, bytes_at}
use Rattle.base.proofs.TestLaws.{leb-iff, eqb-iff, both_iff}
use Rattle.base.proofs.NumberLaws.{bytes_of-length, bytes_at-append, bytes_at_two, bytes_at-rest, number_bytes_at, u16_at-bytes_at, bytes_of_number, bytes_of-u16_at, get_or-below}
use Rattle.chain.specs.Chain.{Chain}
use Rattle.chain.specs.PlanBytes.{end_bytes, header, plan_size, encode, total_field, count_field, end_field, ends_at, decode, shaped, Shaped, Narrow}

pub shaped-iff : (plan : List ℕ) → (shaped plan ≡ true) ↔ Shaped plan
unfolding shaped
shaped-iff plan =
    let size = both_iff (leb-iff 19 (length plan)) (eqb-iff (plan_size (count_field plan)) (length plan)) in
    let mark = both_iff (both_iff (eqb-iff (get_or plan 0 0) 82) (eqb-iff (get_or plan 1 0) 67)) (eqb-iff (get_or plan 2 0) 80) in
    let all = both_iff (both_iff size mark) (eqb-iff (u16_at plan 3) 1) in (
      λ e.
          let h = all.0 e in
          let m = h.0.1 in
          record { enough = h.0.0.0; long = sym h.0.0.1; mark = (m.0.0, m.0.1, m.1); version = h.1 },
      λ h. all.1 (((h.enough, sym h.long), ((h.mark.0, h.mark.1), h.mark.2)), h.version),
    )

end_bytes-length : (ks : List ℕ) → length (end_bytes ks) ≡ 2 * length ks
unfolding end_bytes
end_bytes-length [] = refl
end_bytes-length (k ∷ ks) = omega (arith, length-append (bytes_of 2 k) (end_bytes ks), bytes_of-length 2 k, end_bytes-length ks)

pub encode-length : (total : ℕ) (c : Chain) → length (encode total c) ≡ plan_size (length c.ends)
unfolding encode header bytes_of
encode-length total c = omega (arith, end_bytes-length c.ends)

ends_at-length : (plan : List ℕ) (at n : ℕ) → length (ends_at plan at n) ≡ n
unfolding ends_at
ends_at-length plan at zero = refl
ends_at-length plan at (suc n) = ap suc (ends_at-length plan (at + 2) n)

ends_at-part :
    (s : List ℕ) (at : ℕ) (ks : List ℕ)
    → Every (λ k. k < 65_536) ks
    → bytes_at s at (2 * length ks) ≡ end_bytes ks
    → ends_at s at (length ks) ≡ ks
unfolding end_bytes ends_at bytes_of bytes_at
ends_at-part s at [] h e = refl
ends_at-part s at (k ∷ ks) h e =
    let both = rw (bytes_at_two s at (length ks)) at e in
    ap₂ (λ (y : ℕ) (ys : List ℕ). y ∷ ys) (u16_at-bytes_at s at k h.0 (ap (take 2) both))
    (ends_at-part s (at + 2) ks h.1 (ap (drop 2) both))

-- what was encoded: its total, its shape, its chain
module _ (total : ℕ) (c : Chain) where
  pub total_field-encode : total < 18_446_744_073_709_551_616 → total_field (encode total c) ≡ total
  unfolding encode header bytes_of bytes_at
  total_field-encode h = number_bytes_at (encode total c) 5 8 total h refl

  module _ (narrow : Narrow c) where
    pub count_field-encode : count_field (encode total c) ≡ length c.ends
    unfolding encode header bytes_of bytes_at
    count_field-encode = u16_at-bytes_at (encode total c) 17 (length c.ends) narrow.count refl

    pub encode-shaped : Shaped (encode total c)
    unfolding encode header bytes_of bytes_at
    encode-shaped =
        let m = count_field-encode in
        let l = encode-length total c in
        record {
          enough = omega arith;
          long = omega arith;
          mark = (refl, refl, refl);
          version = u16_at-bytes_at (encode total c) 3 1 (omega arith) refl;
        }

    pub decode-encode : decode (encode total c) ≡ c
    unfolding decode encode header bytes_of bytes_at
    decode-encode =
        let s = encode total c in
        let ks = c.ends in
        let rest : bytes_at s 19 (2 * length ks) ≡ end_bytes ks =
        rw (← end_bytes-length ks) (bytes_at-rest (header total c.i c.j (length ks)) (end_bytes ks) 19 refl) in
        let p = u16_at-bytes_at s 13 c.i narrow.first refl in
        let q = u16_at-bytes_at s 15 c.j narrow.second refl in
        let e = ap (λ (n : ℕ). ends_at s 19 n) count_field-encode ∙ ends_at-part s 19 ks narrow.years rest in
        λ k. record { i = p k; j = q k; ends = e k }

-- so for end years, and for the header of a plan
module _ (s : List ℕ) (byte : (k : ℕ) → get_or s k 0 < 256) where
  end_bytes-part : (at n : ℕ) → end_bytes (ends_at s at n) ≡ bytes_at s at (2 * n)
  unfolding end_bytes ends_at bytes_at
  end_bytes-part at zero = refl
  end_bytes-part at (suc n) = rw (bytes_at_two, bytes_of-u16_at s byte, end_bytes-part (at + 2) n)

  header-part : Shaped s → header (total_field s) (u16_at s 13) (u16_at s 15) (count_field s) ≡ bytes_at s 0 19
  unfolding header bytes_at
  header-part h =
      let version : bytes_of 2 1 ≡ bytes_at s 3 2 = rw (← h.version) (bytes_of-u16_at s byte 3) in
      rw (version, bytes_of_number s byte 5 8, bytes_of-u16_at s byte 13, bytes_of-u16_at s byte 15, bytes_of-u16_at s byte 17, h.mark.0, h.mark.1, h.mark.2)

-- bytes of a plan's shape are the encoding of the chain read from them, with the total field that they have
pub encode-decode :
    (plan : List ℕ)
    → Shaped plan
    → ((k : ℕ) → k < length plan → get_or plan k 0 < 256)
    → encode (total_field plan) (decode plan) ≡ plan
unfolding encode decode
encode-decode plan h b =
    let byte = get_or-below plan b in
    let m = count_field plan in
    rw (ends_at-length plan 19 m, header-part plan byte h, end_bytes-part plan byte 19 m, ← bytes_at-append plan 0 19 (2 * m), ← h.long)
    (bytes_at-rest [] plan 0 refl)

-- one end more, and none
pub ends_next : (plan : List ℕ) (at n : ℕ) → 0 < n → ends_at plan at n ≡ u16_at plan at ∷ ends_at plan (at + 2) (n - 1)
unfolding ends_at
ends_next plan at zero h = absurd (omega arith)
ends_next plan at (suc n) h = let e : suc n - 1 ≡ n = omega arith in rw e

pub ends_none : (plan : List ℕ) (at : ℕ) → ends_at plan at 0 ≡ []
unfolding ends_at
ends_none plan at = refl

-- of that many ends of a plan, those from place k on: the end at k and the others, and none
abbrev pub ends_left : List ℕ → (count k : ℕ) → List ℕ
ends_left plan count k = ends_at plan (19 + 2 * k) (count - k)

module _ (plan : List ℕ) (count k : ℕ) where
  pub ends_more : k < count → {end : ℕ} → end ≡ end_field plan k → ends_left plan count k ≡ end ∷ ends_left plan count (k + 1)
  ends_more h {end} read =
      let at : 19 + 2 * (k + 1) ≡ 19 + 2 * k + 2 = omega arith in
      let rest : count - (k + 1) ≡ count - k - 1 = omega arith in
      rw (at, rest, read) (ends_next plan (19 + 2 * k) (count - k) (omega arith))

  pub ends_done : count ≤ k → ends_left plan count k ≡ []
  ends_done h = let none : count - k ≡ 0 = omega arith in rw none (ends_none plan (19 + 2 * k))
