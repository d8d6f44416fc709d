-- Two years: the later one is settled first, by the totals behind it, and the choice from the earlier one goes by its total too. Assumes nothing.
use Prim.Native.Nat.{◌-◌}
use mathlib.Core.Path.{sym, ap, subst, ◌∙◌}
use native.Mathlib.Omega.{arith}
use Rattle.costing.specs.Arc.{kept_from}
use Rattle.costing.specs.declared.Kept.{Kept}
use Rattle.streams.specs.Streams.{PowerAt}
use Rattle.weighing.specs.Ends.{CostsTo}
use Rattle.weighing.proofs.ArcCostLaws.{costs_to}
use Rattle.tails.specs.Writing.{chosen_by}
use Rattle.tails.proofs.YearLaws.{replace_next, replace_walks, replace_behind}
use Rattle.tails.proofs.Lent.two_years.Goals as goal

pub two_starts-requires-clause-walks : goal.two_starts-requires-clause-walks
two_starts-requires-clause-walks c =
    let a = c.args in
    let o = a.self.now in
    let given = c.requires.fillable in
    let kept = c.kept_of-kept.ensures in
    let bound = c.requires.le_reached.1 in (
      replace_walks o.sheet (a.reached - 2) kept o.discount o.streams.now o.ages.now a.words.now a.firsts.now a.ahead.now given (omega arith),
      subst (λ (k : Kept). PowerAt k o.streams.now) (sym (replace_next o.sheet (a.reached - 2) kept (a.reached - 1)))
          (given.lent.2 (a.reached - 1) (omega arith)),
    )

pub best_of-second-requires : goal.best_of-second-requires
best_of-second-requires c =
    let a = c.args in
    let o = a.self.now in
    let s = o.sheet in
    let given = c.requires.fillable in
    let late = a.reached - 1 in
    let bound = c.requires.le_reached in
    let next = c.starting-next.ensures ∙ replace_next s (a.reached - 2) c.kept_of-kept.ensures late in (
      record {
        fits = (replace_walks s late next o.discount o.streams.now o.ages.now a.words.now a.firsts.now a.ahead.now given (omega arith)).steps.fits;
        known =
            subst (λ (k : Kept). CostsTo k s.horizon c.two_starts.new.later) (sym c.starting-next.ensures)
            (costs_to (kept_from c.kept_of-kept.result late) (a.reached - 2) s.horizon _ c.two_starts.new.later c.min-years.ensures (omega arith)
            c.two_starts.ensures.later);
        room = omega arith;
      },
      replace_behind s late next a.ahead.now given.sheet (omega arith) given.behind
          (λ p read e l u. bound.2 p read e (omega arith) u),
    )

pub settle-requires-clause-year_lt_horizon : goal.settle-requires-clause-year_lt_horizon
settle-requires-clause-year_lt_horizon c =
    let a = c.args in
    let o = a.self.now in
    let bound = c.requires.le_reached in
    let next = c.starting-next.ensures ∙ replace_next o.sheet (a.reached - 2) c.kept_of-kept.ensures (a.reached - 1) in (
      omega arith,
      record {
        held = λ p read e l u. bound.2 p read e (omega arith) u;
        chosen = c.best_of-second.ensures ∙ ap (λ (k : Kept). chosen_by k o.sheet.horizon a.ahead.now) next;
      },
    )

pub best_of-first-requires : goal.best_of-first-requires
best_of-first-requires c =
    let a = c.args in
    let o = a.self.now in
    let s = o.sheet in
    let given = c.requires.fillable in
    let bound = c.requires.le_reached in
    let kept = c.kept_of-kept.ensures in
    let from = ap (λ (k : Kept). k.from) kept in
    let ahead = c.settle.new.ahead in (
      record {
        fits = (replace_walks s (a.reached - 2) kept o.discount o.streams.now o.ages.now a.words.now a.firsts.now a.ahead.now given (omega arith)).steps.fits;
        known =
            costs_to c.kept_of-kept.result (a.reached - 2) s.horizon _ c.two_starts.new.earlier c.min-years.ensures (omega arith)
            c.two_starts.ensures.earlier;
        room = omega arith;
      },
      replace_behind s (a.reached - 2) kept ahead given.sheet (omega arith) (omega arith)
          (λ p read e l u. c.settle.ensures.ahead p read e (omega arith) u),
    )
