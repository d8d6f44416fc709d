-- Every year from T down: the years from that of a pair on are written in both lists and no others, and the totals behind them are held.
use Prim.Native.Nat.{◌*◌}
use Rattle.sheet.specs.Sheet.{replace}
use Rattle.tails.specs.Words.{total_of, first_end}
use Rattle.tails.specs.Writing.{AheadHeld, LastWritten}
use Rattle.tails.proofs.Lent.fill.Given as goal

abbrev pub invariant-loop-pair : goal.invariant-loop-pair
invariant-loop-pair l = record {
  words : LastWritten total_of l.fn.self.sheet (2 * l.pair) l.fn.words l.words;
  firsts : LastWritten first_end l.fn.self.sheet (2 * l.pair) l.fn.firsts l.firsts;
  ahead : AheadHeld replace l.fn.self.sheet (2 * l.pair) l.ahead;
}
