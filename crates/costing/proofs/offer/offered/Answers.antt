-- An arc is offered by a parsed sheet: by the lives of its option. Assumes nothing.
use mathlib.Core.Path.{◌∙◌}
use native.Mathlib.Omega.{arith}
use Rattle.sheet.proofs.ParsedLaws.{horizon_read, terms_read}
use Rattle.costing.proofs.OfferedLaws.{offered_read}
use Rattle.costing.proofs.offer.offered.Goals as goal

pub returns : goal.returns
returns c p read =
    let known = c.min-known in
    c.offered_by.ensures
    ∙ offered_read p _ _ _ known.result known.ensures (horizon_read _ p read) (terms_read _ p read known.result _ (omega (arith, known.ensures)))
