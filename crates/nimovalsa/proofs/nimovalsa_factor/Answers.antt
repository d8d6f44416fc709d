-- `nimovalsa_factor` returns what `factor` answers; the answer packs, since no factor is above 10^12. Assumes nothing.
use mathlib.Core.Path.{◌∙◌}
use Rattle.yearbook.proofs.FactorLaws.{factor_packs}
use Rattle.nimovalsa.proofs.PackedLaws.{returns_same}
use Rattle.nimovalsa.proofs.nimovalsa_factor.Goals as goal

pub pack-requires : goal.pack-requires
pack-requires c = rw (c.from.ensures, c.factor.ensures.answer) (factor_packs _ _)

pub returns : goal.returns
returns c =
    let a = c.factor.ensures in
    let r = c.pack.ensures in
    record {
      answer = returns_same (c.from.ensures ∙ a.answer) r;
      promised = rw (r.reads, c.from.ensures) a.promised;
    }
