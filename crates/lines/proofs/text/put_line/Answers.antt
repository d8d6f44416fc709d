-- A line is its word, its number and its end, each behind the one before. Assumes nothing.
use Rattle.lines.specs.Lines.{line}
use Rattle.lines.proofs.PutLaws.{puts_more}
use Rattle.lines.proofs.text.put_line.Goals as goal

pub returns-clause-puts : goal.returns-clause-puts
unfolding line
returns-clause-puts c = puts_more (puts_more c.put_word-behind.ensures c.put_number-end.ensures) c.put_word.ensures
