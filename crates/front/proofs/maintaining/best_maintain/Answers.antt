-- The streams of maintaining are lent, and its end chosen by the totals of renovating. Assumes nothing.
use mathlib.Core.Path.{subst}
use native.Mathlib.Omega.{arith}
use Rattle.sheet.specs.Sheet.{maintain}
use Rattle.checking.specs.Fit.{Fit}
use Rattle.front.proofs.KeptLaws.{planned_best, lent_asks}
use Rattle.front.proofs.maintaining.best_maintain.Goals as goal

pub returns : goal.returns
returns c p read =
    planned_best p (subst Fit read c.requires.sheet_fits.0.fit) c.args.sheet read c.args.totals.now c.requires.totals_held.0 c.kept_of-kept.ensures c.best_from.ensures

pub best_from-requires : goal.best_from-requires
best_from-requires c =
    let asks =
    lent_asks c.args.sheet c.requires.sheet_fits.0.fit _ c.requires.sheet_fits.1 maintain 0 _ _ c.args.totals.now (omega arith) (omega arith)
    c.lend-ages.ensures c.requires.totals_held.0.room c.requires.totals_held.1 c.kept_of-kept.ensures in
    record { walks = asks.0; words_behind = asks.1 }
