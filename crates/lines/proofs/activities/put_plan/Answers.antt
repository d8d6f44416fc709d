-- The lines of a plan, each behind the one before. Assumes nothing.
use mathlib.Core.Path.{sym}
use Rattle.chain.specs.Chain.{activities}
use Rattle.chain.specs.PlanBytes.{decode}
use Rattle.lines.specs.Lines.{activity_lines, plan_lines}
use Rattle.lines.proofs.PutLaws.{puts_more}
use Rattle.lines.proofs.activities.put_plan.Goals as goal

pub returns : goal.returns
unfolding plan_lines activity_lines activities decode
returns c =
    rw (sym c.i_of-i.ensures.0, sym c.j_of-j.ensures.0, sym c.total_of.ensures, sym c.requires.0)
    (puts_more c.put_line-maintain.ensures.puts
    (puts_more c.put_pair-renovate.ensures.puts (puts_more c.put_pair-replace.ensures.puts c.put_replacements.ensures)))
