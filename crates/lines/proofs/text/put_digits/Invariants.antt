-- Digits are put from the last one on: those that are left, put before those that stand, are all. Assumes nothing.
use mathlib.Core.Path.{◌≡◌}
use lib.Seq.{sets}
use Rattle.lines.specs.Lines.{digits}
use Rattle.lines.proofs.text.put_digits.Given as goal

abbrev pub invariant-loop-k : goal.invariant-loop-k
invariant-loop-k l = sets l.text l.at (digits l.k l.rest) ≡ sets l.initial.text l.at (digits l.count l.number)
