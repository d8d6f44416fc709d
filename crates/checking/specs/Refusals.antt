-- Refusals 1 to 9 of a planning sheet, a definition a row of document 01's 'Refusal table', in its order; `checked` is the first of
-- them in the order that the document gives below the table. A rule is a test that is true where the row does not refuse: `leb a b`
-- tests a ≤ b, `ltb a b` a < b, `eqb a b` a = b, and `le_z` a ≤ b of integers. Definitions only.
use Rattle.std.specs.Prelude.{ℕ, zero, suc, ◌+◌, ◌*◌, List, Bool, ◌&&◌, ◌||◌, length, get_or, leb, ltb, eqb, ℤ, pos, neg_ℤ}
use Rattle.std.specs.Int.Signed.{le_z}
use Rattle.base.specs.Answer.{accepted, answered, ◌unless◌else◌, ◌or_else◌}
use Rattle.base.specs.declared.Answer.{Answer}
use Rattle.sheet.specs.Layout.{length_ok}
use Rattle.sheet.specs.Sheet.{Expense, OptionRecord, PlanningSheet, sheet_of, factor}

-- 2: the mark, `RCS` in ASCII, and the version that goes with the length
abbrev pub mark_ok : List ℕ → Bool
mark_ok s = eqb (get_or s 0 0) 82 && eqb (get_or s 1 0) 67 && eqb (get_or s 2 0) 83

abbrev pub version_ok : (bytes version : ℕ) → Bool
version_ok bytes version = (eqb bytes 278 && eqb version 1) || (eqb bytes 302 && eqb version 2)

-- 3: T from 1 to 300
abbrev pub horizon_ok : ℕ → Bool
horizon_ok t = leb 1 t && leb t 300

-- 4: r at most 200,000
abbrev pub rate_ok : ℕ → Bool
rate_ok r = leb r 200_000

-- 5: lives both 0, or 1 ≤ shortest ≤ longest ≤ 120
abbrev pub lives_ok : ℕ → ℕ → Bool
lives_ok shortest longest =
    (eqb shortest 0 && eqb longest 0) || (leb 1 shortest && leb shortest longest && leb longest 120)

-- 6 and 9: an amount is at most 10^9
abbrev pub amount_ok : ℕ → Bool
amount_ok amount = leb amount 1_000_000_000

-- 6: investment, maintenance, electricity and removal
abbrev pub amounts_ok : (investment maintenance electricity removal : ℕ) → Bool
amounts_ok investment maintenance electricity removal =
    amount_ok investment && amount_ok maintenance && amount_ok electricity && amount_ok removal

-- 7: an inflation is from −100,000 to r
unfoldable pub inflation_ok : ℕ → ℤ → Bool
inflation_ok r f = le_z (neg_ℤ (pos 100_000)) f && le_z f (pos r)

-- 7: the five inflations
unfoldable pub inflations_ok : ℕ → OptionRecord → Bool
inflations_ok r o =
    inflation_ok r o.investment.inflation && inflation_ok r o.maintenance.inflation
    && inflation_ok r o.electricity.inflation && inflation_ok r o.overhaul_inflation && inflation_ok r o.removal.inflation

-- 8: an ageing is at most 300,000, and (10^6 + f)(10^6 + g) at most 10^6 (10^6 + r)
unfoldable pub ageing_ok : ℕ → Expense → Bool
ageing_ok r e =
    leb e.ageing 300_000 && leb (factor e.inflation * (1_000_000 + e.ageing)) (1_000_000 * (1_000_000 + r))

-- 8: maintenance and electricity
unfoldable pub ageings_ok : ℕ → OptionRecord → Bool
ageings_ok r o = ageing_ok r o.maintenance && ageing_ok r o.electricity

-- 9: there are at most 8 overhauls
abbrev pub count_ok : ℕ → Bool
count_ok count = leb count 8

-- 9, a used entry: its age is 1 to 119 and above the one before, its amount at most 10^9
abbrev pub used_ok : ℕ → ℕ → ℕ → Bool
used_ok before age amount = leb 1 age && leb age 119 && ltb before age && amount_ok amount

-- 9, an unused entry is zero
abbrev pub unused_ok : ℕ → ℕ → Bool
unused_ok age amount = eqb age 0 && eqb amount 0

-- 9, entry j, which is used below the count
abbrev pub entry_ok : ℕ → ℕ → ℕ → ℕ → ℕ → Bool
entry_ok count j before age amount = (ltb j count && used_ok before age amount) || (leb count j && unused_ok age amount)

-- the age of the overhaul before the j-th, 0 before the first
unfoldable pub age_before : OptionRecord → ℕ → ℕ
age_before o zero = 0
age_before o (suc j) = (o.overhaul j).age

unfoldable pub overhaul_ok : OptionRecord → ℕ → Bool
overhaul_ok o j = entry_ok o.overhaul_count j (age_before o j) (o.overhaul j).age (o.overhaul j).amount

-- the first of 1 to 4 for a sheet, else 0
unfoldable pub header_number : List ℕ → ℕ
header_number s =
    1 unless length_ok (length s) else
    2 unless mark_ok s && version_ok (length s) (sheet_of s).version else
    3 unless horizon_ok (sheet_of s).horizon else
    4 unless rate_ok (sheet_of s).rate else
    0

-- the first of 5 to 9 for an option's record at rate r, its overhaul entries left out, else 0
unfoldable pub fields_number : ℕ → OptionRecord → ℕ
fields_number r o =
    5 unless lives_ok o.shortest o.longest else
    6 unless amounts_ok o.investment.amount o.maintenance.amount o.electricity.amount o.removal.amount else
    7 unless inflations_ok r o else
    8 unless ageings_ok r o else
    9 unless count_ok o.overhaul_count else
    0

-- the answer for entry j of option k
unfoldable pub overhaul_answer : OptionRecord → ℕ → ℕ → Answer
overhaul_answer o k j = answered (9 unless overhaul_ok o j else 0) k

-- the first refusal of answer 0, answer 1, .., answer (n − 1): the check stops at the first fault
unfoldable pub first_below : ℕ → (ℕ → Answer) → Answer
first_below zero answer = accepted 0
first_below (suc n) answer = first_below n answer or_else answer n

-- the answer for option k: inside one, overhaul by overhaul
unfoldable pub option_answer : PlanningSheet → ℕ → Answer
option_answer p k = answered (fields_number p.rate (p.option k)) k or_else first_below 8 (overhaul_answer (p.option k) k)

-- the answer for a sheet: 1 to 4, then maintain, renovate, replace, each with 5 to 9
unfoldable pub checked : List ℕ → Answer
checked s = answered (header_number s) 3 or_else first_below 3 (option_answer (sheet_of s))
