-- The upper half of a product, from the products of halves. Assumes nothing.
use Prim.Native.Nat.{◌/◌, ◌%◌, ◌^◌}
use native.Mathlib.Omega.{arith}
use Rattle.division.proofs.UpperLaws.{small_product_le, middle_fits, lower_fits, carried_fits, upper_fits, upper_is}
use Rattle.division.proofs.upper.Goals as goal

pub returns : goal.returns
returns c = upper_is c.args.x c.args.y

pub overflow_mul-middle : goal.overflow_mul-middle
overflow_mul-middle c = omega (arith, small_product_le (c.args.x / 2 ^ 32) (c.args.y % 2 ^ 32) (omega arith) (omega arith))

pub overflow_mul-middle-2 : goal.overflow_mul-middle-2
overflow_mul-middle-2 c = omega (arith, small_product_le (c.args.x % 2 ^ 32) (c.args.y % 2 ^ 32) (omega arith) (omega arith))

pub overflow_add-middle : goal.overflow_add-middle
overflow_add-middle c = record { fits = middle_fits c.args.x c.args.y (omega arith) (omega arith) }

pub overflow_mul-lower : goal.overflow_mul-lower
overflow_mul-lower c = omega (arith, small_product_le (c.args.x % 2 ^ 32) (c.args.y / 2 ^ 32) (omega arith) (omega arith))

pub overflow_add-lower : goal.overflow_add-lower
overflow_add-lower c = record { fits = lower_fits c.args.x c.args.y (omega arith) (omega arith) }

pub overflow_mul-result : goal.overflow_mul-result
overflow_mul-result c = omega (arith, small_product_le (c.args.x / 2 ^ 32) (c.args.y / 2 ^ 32) (omega arith) (omega arith))

pub overflow_add-result : goal.overflow_add-result
overflow_add-result c = record { fits = carried_fits c.args.x c.args.y (omega arith) (omega arith) }

pub overflow_add-result-2 : goal.overflow_add-result-2
overflow_add-result-2 c = record { fits = upper_fits c.args.x c.args.y (omega arith) (omega arith) }
