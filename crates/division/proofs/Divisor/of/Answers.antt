-- 2^83 over a divisor to the nearest whole number, by two divisions. Assumes nothing.
use mathlib.Core.Path.{refl}
use native.Mathlib.Omega.{arith}
use Rattle.division.proofs.ReciprocalLaws.{high_le, lower_lt, low_le, left_lt, inverse_fits, ready}
use Rattle.division.proofs.Divisor.of.Goals as goal

pub overflow_mul-rest : goal.overflow_mul-rest
overflow_mul-rest c = omega (arith, high_le c.args.by (omega arith) (omega arith))

pub overflow_sub-rest-2 : goal.overflow_sub-rest-2
overflow_sub-rest-2 c = high_le c.args.by (omega arith) (omega arith)

pub overflow_mul-lower : goal.overflow_mul-lower
overflow_mul-lower c = omega (arith, lower_lt c.args.by (omega arith) (omega arith))

pub overflow_add-lower : goal.overflow_add-lower
overflow_add-lower c = omega (arith, lower_lt c.args.by (omega arith) (omega arith))

pub overflow_mul-left : goal.overflow_mul-left
overflow_mul-left c = let l = c.args.by in omega (arith, low_le l (omega arith) (omega arith), lower_lt l (omega arith) (omega arith))

pub overflow_sub-left : goal.overflow_sub-left
overflow_sub-left c = low_le c.args.by (omega arith) (omega arith)

pub overflow_mul-inverse : goal.overflow_mul-inverse
overflow_mul-inverse c = omega (arith, inverse_fits c.args.by (omega arith) (omega arith))

pub overflow_add-inverse : goal.overflow_add-inverse
overflow_add-inverse c = omega (arith, inverse_fits c.args.by (omega arith) (omega arith))

pub overflow_add-left : goal.overflow_add-left
overflow_add-left c = omega (arith, left_lt c.args.by (omega arith) (omega arith))

pub overflow_mul-left-2 : goal.overflow_mul-left-2
overflow_mul-left-2 c = omega (arith, left_lt c.args.by (omega arith) (omega arith))

pub returns-then-left-by : goal.returns-then-left-by
returns-then-left-by c = record { number = refl; ready = ready _ }

pub overflow_add-result : goal.overflow_add-result
overflow_add-result c = record { fits = inverse_fits c.args.by (omega arith) (omega arith) }

pub returns : goal.returns
returns c = record { number = refl; ready = ready _ }
