-- The product leaves room for the division. Assumes nothing.
use native.Mathlib.Nat.{mul-le-mul}
use native.Mathlib.Omega.{arith}
use Rattle.nominal.proofs.risen.Goals as goal

pub overflow_mul-a : goal.overflow_mul-a
overflow_mul-a c = omega (arith, mul-le-mul c.requires.0 c.requires.1)

pub up-requires : goal.up-requires
up-requires c = (omega arith, omega arith, omega (arith, mul-le-mul c.requires.0 c.requires.1))
