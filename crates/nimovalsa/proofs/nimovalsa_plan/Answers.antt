-- `nimovalsa_plan` returns what `plan` answers, and leaves what it leaves; the promises follow for what was returned. Assumes nothing.
use mathlib.Core.Path.{◌∙◌}
use Rattle.planner.proofs.RangeLaws.{plan_packs}
use Rattle.planner.proofs.Demands.{promised_of}
use Rattle.nimovalsa.proofs.PackedLaws.{returns_same}
use Rattle.nimovalsa.proofs.nimovalsa_plan.Goals as goal

pub returns : goal.returns
returns c =
    let a = c.args in
    let h = c.plan.ensures in
    let r = c.pack.ensures in
    let promised = promised_of a.sheet.now a.plan.now a.words.now (r.reads ∙ c.from.ensures ∙ h.answer) h.plan h.words in
    record {
      answer = returns_same (c.from.ensures ∙ h.answer) r;
      plan = h.plan;
      words = h.words;
      promised = promised;
    }

pub pack-requires : goal.pack-requires
pack-requires c =
    rw (c.from.ensures, c.plan.ensures.answer) (plan_packs _ _ _)
