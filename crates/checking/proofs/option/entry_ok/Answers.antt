-- `entry_ok` is `entry_ok`, by whether the entry is used. Assumes nothing.
use Rattle.checking.proofs.RuleLaws.{entry_used, entry_unused}
use Rattle.checking.proofs.option.entry_ok.Goals as goal

pub returns-then-j-count : goal.returns-then-j-count
returns-then-j-count c =
    let a = c.args in
    entry_used a.count a.j a.before a.age a.amount c.if-j-count.true

pub returns : goal.returns
returns c =
    let a = c.args in
    entry_unused a.count a.j a.before a.age a.amount c.if-j-count.false
