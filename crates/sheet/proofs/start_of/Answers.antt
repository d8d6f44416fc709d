-- `start_of` gives the place of a record, which stands in the sheet. Assumes nothing.
use mathlib.Core.Path.{sym, ◌∙◌}
use mathlib.Core.Bool.{true, false}
use Rattle.base.specs.Outcome.{place}
use Rattle.base.proofs.OutcomeLaws.{place_lt}
use Rattle.sheet.specs.Layout.{record_length}
use Rattle.sheet.proofs.LayoutLaws.{record_at_lem}
use Rattle.sheet.proofs.start_of.Goals as goal

pub returns-then-is_long : goal.returns-then-is_long
unfolding record_length
returns-then-is_long c =
    rw c.place-k.ensures
    (record_at_lem _ (place c.args.activity) c.requires (place_lt c.args.activity) true (sym c.if-is_long.true ∙ c.is_long.ensures))

pub returns : goal.returns
unfolding record_length
returns c =
    rw c.place-k.ensures
    (record_at_lem _ (place c.args.activity) c.requires (place_lt c.args.activity) false (sym c.if-is_long.false ∙ c.is_long.ensures))
