-- `nimovalsa_price` returns what `price` answers; the answer packs, since a chain costs less than 2^56 units. Assumes nothing.
use mathlib.Core.Path.{◌∙◌}
use mathlib.Core.Logic.Iff
use Rattle.base.proofs.OutcomeLaws.{ok_total, total_near}
use Rattle.sheet.specs.Sheet.{sheet_of}
use Rattle.chain.specs.Error.{TotalNear}
use Rattle.chain.specs.PlanBytes.{decode}
use Rattle.pricing.proofs.PriceLaws.{priced_packs}
use Rattle.nimovalsa.proofs.PackedLaws.{returns_same}
use Rattle.nimovalsa.proofs.nimovalsa_price.Goals as goal

pub pack-requires : goal.pack-requires
pack-requires c = rw (c.from.ensures, c.price.ensures.answer) (priced_packs _ _)

pub returns : goal.returns
returns c =
    let v = c.args in
    let a = c.price.ensures in
    let r = c.pack.ensures in
    record {
      answer = returns_same (c.from.ensures ∙ a.answer) r;
      accepted = λ t. rw (r.reads, c.from.ensures) (Iff.trans (ok_total c.price.result t) (a.accepted t));
      near = rw (r.reads, c.from.ensures) (total_near c.price.result (TotalNear (sheet_of v.sheet.now) (decode v.plan.now)) a.near);
    }
