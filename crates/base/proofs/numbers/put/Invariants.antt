-- A number is written byte by byte: what is left to write, on the bytes so far, gives what is asked.
use Rattle.std.proofs.Common.{◌≡◌, ◌+◌, ◌-◌}
use Rattle.std.proofs.lemmas.List.Edits.{sets}
use Rattle.base.specs.Numbers.{bytes_of}
use Rattle.base.proofs.numbers.put.Given as goal

abbrev pub invariant-loop-at : goal.invariant-loop-at
invariant-loop-at l =
    sets l.list l.at (bytes_of (l.fn.start + l.fn.count - l.at) l.rest) ≡ sets l.initial.list l.fn.start (bytes_of l.fn.count l.fn.number)
