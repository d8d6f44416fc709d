-- `terms_of` reads the record of an option. Assumes nothing.
use mathlib.Core.Path.{sym, ◌∙◌}
use Rattle.sheet.specs.Sheet.{option_at, sheet_of}
use Rattle.sheet.specs.Parsed.{terms_of}
use Rattle.sheet.proofs.terms_of.Goals as goal

pub terms_at-requires : goal.terms_at-requires
terms_at-requires c =
    let at = c.start_of.ensures in
    (at.inside, λ long. at.longer (sym c.is_long.ensures ∙ long))

pub returns : goal.returns
unfolding sheet_of
returns c =
    c.terms_at.ensures
    ∙ (λ i. terms_of (option_at (c.is_long.ensures i) c.args.s.now (c.start_of.ensures.starts i)))
