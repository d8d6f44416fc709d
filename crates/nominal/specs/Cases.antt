-- Steps of cents, a list of what the rules give beside what it should be, worked out apart from these definitions. `CaseLaws.antt` evaluates
-- them. Definitions only.
use Rattle.std.specs.Prelude.{ℕ, ◌+◌, List, [], ◌∷◌, ℤ, pos, neg_ℤ}
use Rattle.base.specs.Cases.{Case}
use Rattle.sheet.specs.Sheet.{factor}
use Rattle.nominal.specs.Nominal.{nominal_plain, nominal_in_service, cents}

-- general inflation, f, g: a step of an amount in cents, plain and in service
abbrev pub plain_case : (general : ℕ) (f : ℤ) (a result : ℕ) → Case
plain_case general f a result = record { Figure = ℕ; given = nominal_plain (1_000_000 + general) (factor f) a; expected = result }

abbrev pub service_case : (general : ℕ) (f : ℤ) (g a result : ℕ) → Case
service_case general f g a result =
    record { Figure = ℕ; given = nominal_in_service (1_000_000 + general) (factor f) (1_000_000 + g) a; expected = result }

-- a payment of an amount in currency units after plain steps and then steps in service
abbrev pub payment_case : (general : ℕ) (f : ℤ) (g amount plainly served result : ℕ) → Case
payment_case general f g amount plainly served result =
    record {
      Figure = ℕ;
      given =
          cents (1_000_000 + general)
          (record { amount = amount; grow = factor f; age = 1_000_000 + g; plainly = plainly; served = served });
      expected = result;
    }

abbrev pub cases_of_cents : List Case
cases_of_cents =
    -- each of the rates is rounded up by itself: 700.7 is 701, and 708.01 is 709
    plain_case 1_000 (pos 10_000) 700 709
    -- 713.963 is 714, 714.714 is 715, and 722.15 is 723; ageing last would give 724
    ∷ service_case 1_000 (pos 10_000) 7_000 709 723
    -- a whole number of cents stays; a fall is rounded up too
    ∷ plain_case 10_000 (pos 10_000) 10_000 10_201
    ∷ plain_case 0 (neg_ℤ (pos 100_000)) 101 91
    -- 7 currency units as they start, after a plain step, and after a step in service more: general last would give 722 in the end, ageing last
    -- 724, one rounding a year 721
    ∷ payment_case 1_000 (pos 10_000) 7_000 7 0 0 700
    ∷ payment_case 1_000 (pos 10_000) 7_000 7 1 0 709
    ∷ payment_case 1_000 (pos 10_000) 7_000 7 1 1 723
    -- as large as it gets with these rates: r 200,000 lets them pass check 8
    ∷ payment_case 50_000 (neg_ℤ (pos 40_000)) 250_000 1_000_000_000 0 15 3_203_009_131_254
    ∷ []
