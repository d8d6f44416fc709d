-- One year: the choice of a replacement from it is by the totals behind its ends. Assumes nothing.
use native.Mathlib.Omega.{arith}
use Rattle.tails.proofs.YearLaws.{replace_walks, replace_behind}
use Rattle.tails.proofs.Lent.one_year.Goals as goal

pub best_end-chosen-requires : goal.best_end-chosen-requires
best_end-chosen-requires c =
    let a = c.args in
    let o = a.self.now in
    let given = c.requires.fillable in
    let kept = c.kept_of-kept.ensures in (
      replace_walks o.sheet a.year kept o.discount o.streams.now o.ages.now a.words.now a.firsts.now a.ahead.now given (omega arith),
      replace_behind o.sheet a.year kept a.ahead.now given.sheet (omega arith) given.behind c.requires.year_lt_horizon.1,
    )
