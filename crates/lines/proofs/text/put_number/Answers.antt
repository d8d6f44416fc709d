-- A blank, and as many digits as the number has. Assumes nothing.
use native.Mathlib.Numerals.{add-one}
use native.Mathlib.Omega.{arith}
use lib.ListN.{length-set}
use Rattle.lines.specs.Lines.{decimal}
use Rattle.lines.proofs.DecimalLaws.{decimal-places}
use Rattle.lines.proofs.text.put_number.Goals as goal

pub put_digits-requires : goal.put_digits-requires
put_digits-requires c = simp length-set (omega (arith, c.places-count.ensures, decimal-places c.args.number))

pub overflow_add-result-2 : goal.overflow_add-result-2
overflow_add-result-2 c = omega (arith, c.places-count.ensures, decimal-places c.args.number)

pub returns : goal.returns
unfolding decimal
returns c = record {
  stored = rw (c.put_digits.ensures, c.places-count.ensures, add-one c.args.at);
  behind = omega (arith, c.places-count.ensures, decimal-places c.args.number);
  inside = omega (arith, c.places-count.ensures, decimal-places c.args.number);
}
