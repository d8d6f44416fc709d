-- `nimovalsa_cost` returns what `cost` answers; the answer packs, since an arc costs less than 2^56 units. Assumes nothing.
use Prim.Native.Nat.{ℕ}
use mathlib.Core.Path.{◌∙◌}
use mathlib.Core.Logic.Iff
use Rattle.base.proofs.OutcomeLaws.{accepted_number, total_near}
use Rattle.sheet.specs.Sheet.{sheet_of}
use Rattle.costing.specs.Arc.{arc_of}
use Rattle.costing.specs.Error.{WithinAllowance}
use Rattle.costing.proofs.CostLaws.{costed_packs}
use Rattle.nimovalsa.proofs.PackedLaws.{returns_same}
use Rattle.nimovalsa.proofs.nimovalsa_cost.Goals as goal

pub pack-requires : goal.pack-requires
pack-requires c = rw (c.from.ensures, c.cost.ensures.answer) (costed_packs _ _ _ _)

pub returns : goal.returns
returns c =
    let v = c.args in
    let a = c.cost.ensures in
    let r = c.pack.ensures in
    record {
      answer = returns_same (c.from.ensures ∙ a.answer) r;
      accepted = rw (r.reads, c.from.ensures) (Iff.trans (accepted_number (λ (t : ℕ). t) c.cost.result) a.accepted);
      near = rw (r.reads, c.from.ensures) (total_near c.cost.result (WithinAllowance (arc_of (sheet_of v.sheet.now) v.option v.start v.end)) a.near);
    }
