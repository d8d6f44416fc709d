-- `nimovalsa_check` returns what `check` answers, which packs. Assumes nothing.
use mathlib.Core.Path.{◌∙◌}
use mathlib.Core.Logic.Iff
use Rattle.base.proofs.OutcomeLaws.{accepted_number}
use Rattle.checking.proofs.RangeLaws.{checked_packs}
use Rattle.nimovalsa.proofs.PackedLaws.{returns_same}
use Rattle.nimovalsa.proofs.nimovalsa_check.Goals as goal

pub pack-requires : goal.pack-requires
pack-requires c = rw (c.from.ensures, c.check.ensures.answer) (checked_packs _)

pub returns : goal.returns
returns c =
    let a = c.check.ensures in
    let r = c.pack.ensures in
    record {
      answer = returns_same (c.from.ensures ∙ a.answer) r;
      accepted = rw (r.reads, c.from.ensures) (Iff.trans (accepted_number (λ d. 0) c.check.result) a.accepted);
    }
