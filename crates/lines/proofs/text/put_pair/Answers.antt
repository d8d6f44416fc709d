-- A line is its word, its two numbers and its end, each behind the one before. Assumes nothing.
use Rattle.lines.specs.Lines.{pair_line}
use Rattle.lines.proofs.PutLaws.{puts_more}
use Rattle.lines.proofs.text.put_pair.Goals as goal

pub returns-clause-puts : goal.returns-clause-puts
unfolding pair_line
returns-clause-puts c =
    puts_more (puts_more (puts_more c.put_word-behind.ensures c.put_number-between.ensures) c.put_number-end.ensures) c.put_word.ensures
