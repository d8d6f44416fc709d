-- The header and then the end years: together the bytes of the plan. Assumes nothing.
use Rattle.chain.proofs.WriteLaws.{sets-encode}
use Rattle.chain.proofs.writing.write_plan.Goals as goal

pub returns : goal.returns
returns c = rw (c.put_ends.ensures, c.put_header.ensures, sets-encode)
