-- Which row of the refusal table is the first that refuses, and that none does, by the rules of the rows (`Refusals.antt`): of a sheet's
-- header, and of an option's record at a rate. Assumes nothing.
use Prim.Native.Nat.{ℕ}
use mathlib.Core.Path.{◌≡◌}
use mathlib.Core.List.{List}
use mathlib.Core.Bool.{true, false, ◌&&◌}
use lib.ListN.{length}
use Rattle.base.specs.Answer.{◌unless◌else◌}
use Rattle.sheet.specs.Layout.{length_ok}
use Rattle.sheet.specs.Sheet.{OptionRecord, sheet_of}
use Rattle.checking.specs.Refusals.{mark_ok, version_ok, horizon_ok, rate_ok, lives_ok, amounts_ok, inflations_ok, ageings_ok, count_ok, header_number, fields_number}

module _ (s : List ℕ) where
  pub row_1 : length_ok (length s) ≡ false → header_number s ≡ 1
  unfolding header_number ◌unless◌else◌
  row_1 l = rw l

  module _ (l : length_ok (length s) ≡ true) where
    pub row_2 : (mark_ok s && version_ok (length s) (sheet_of s).version) ≡ false → header_number s ≡ 2
    unfolding header_number ◌unless◌else◌
    row_2 m = rw (l, m)

    module _ (m : (mark_ok s && version_ok (length s) (sheet_of s).version) ≡ true) where
      pub row_3 : horizon_ok (sheet_of s).horizon ≡ false → header_number s ≡ 3
      unfolding header_number ◌unless◌else◌
      row_3 h = rw (l, m, h)

      module _ (h : horizon_ok (sheet_of s).horizon ≡ true) where
        pub row_4 : rate_ok (sheet_of s).rate ≡ false → header_number s ≡ 4
        unfolding header_number ◌unless◌else◌
        row_4 r = rw (l, m, h, r)

        pub rows_passed : rate_ok (sheet_of s).rate ≡ true → header_number s ≡ 0
        unfolding header_number ◌unless◌else◌
        rows_passed r = rw (l, m, h, r)

module _ (r : ℕ) (o : OptionRecord) where
  pub row_5 : lives_ok o.shortest o.longest ≡ false → fields_number r o ≡ 5
  unfolding fields_number ◌unless◌else◌
  row_5 l = rw l

  module _ (l : lives_ok o.shortest o.longest ≡ true) where
    pub row_6 : amounts_ok o.investment.amount o.maintenance.amount o.electricity.amount o.removal.amount ≡ false → fields_number r o ≡ 6
    unfolding fields_number ◌unless◌else◌
    row_6 a = rw (l, a)

    module _ (a : amounts_ok o.investment.amount o.maintenance.amount o.electricity.amount o.removal.amount ≡ true) where
      pub row_7 : inflations_ok r o ≡ false → fields_number r o ≡ 7
      unfolding fields_number ◌unless◌else◌
      row_7 i = rw (l, a, i)

      module _ (i : inflations_ok r o ≡ true) where
        pub row_8 : ageings_ok r o ≡ false → fields_number r o ≡ 8
        unfolding fields_number ◌unless◌else◌
        row_8 g = rw (l, a, i, g)

        module _ (g : ageings_ok r o ≡ true) where
          pub row_9 : count_ok o.overhaul_count ≡ false → fields_number r o ≡ 9
          unfolding fields_number ◌unless◌else◌
          row_9 c = rw (l, a, i, g, c)

          pub fields_passed : count_ok o.overhaul_count ≡ true → fields_number r o ≡ 0
          unfolding fields_number ◌unless◌else◌
          fields_passed c = rw (l, a, i, g, c)
