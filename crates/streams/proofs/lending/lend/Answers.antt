-- The streams of an option are filled by its terms, and its ages handed back. Assumes nothing.
use Prim.Native.Nat.{ℕ}
use mathlib.Core.Path.{refl, subst}
use native.Mathlib.Omega.{arith}
use lib.ListN.{get_or}
use Rattle.base.specs.Outcome.{place}
use Rattle.sheet.specs.Parsed.{no_terms}
use Rattle.costing.specs.Arc.{electricity}
use Rattle.streams.specs.Streams.{Streams}
use Rattle.streams.proofs.FillLaws.{power_same}
use Rattle.streams.proofs.lending.lend.Goals as goal

pub returns : goal.returns
unfolding electricity
returns c =
    let filled = rw (c.place.ensures, c.from.ensures) at c.fill.ensures in
    let terms = get_or c.args.sheet.options (place c.args.activity) no_terms in
    let number = c.requires.fit.1.number in (
      subst (λ (d : ℕ). Streams d terms c.args.sheet.horizon c.fill.new.streams) number filled.paid,
      rw c.place.ensures refl,
      power_same terms.electricity c.args.sheet.horizon c.fill.new.streams number (omega arith) filled.power,
    )
