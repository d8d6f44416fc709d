-- The quotient: one product with the reciprocal. Assumes nothing.
use native.Mathlib.Omega.{arith}
use Rattle.division.proofs.ReciprocalLaws.{more_le, reciprocal_quotient}
use Rattle.division.proofs.Divisor.quotient.Goals as goal

pub returns : goal.returns
returns c = reciprocal_quotient c.args.self c.args.n c.upper.result (omega (arith, c.requires)) c.upper.ensures

pub overflow_add-n : goal.overflow_add-n
overflow_add-n c = omega (arith, more_le c.args.self)
