-- Refusal 7 on factors is refusal 7. Assumes nothing.
use Rattle.checking.proofs.RuleLaws.{inflation_tested}
use Rattle.checking.proofs.option.inflation_ok.Goals as goal

pub returns : goal.returns
returns c = inflation_tested c.args.discount c.args.grow
