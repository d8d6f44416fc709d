-- A year is settled: the choice is the table's, so its figures are, and the total behind the ends of the year is made from its word. Assumes nothing.
use mathlib.Core.Path.{ap, ◌∙◌}
use native.Mathlib.Omega.{arith}
use lib.ListN.{set}
use Rattle.sheet.specs.Sheet.{replace}
use Rattle.weighing.specs.declared.Best.{Best}
use Rattle.tails.proofs.AheadLaws.{look_room, look_held}
use Rattle.tails.proofs.YearLaws.{chosen_tail, word_chosen}
use Rattle.tails.proofs.Lent.settle.Goals as goal

pub look_ahead-requires : goal.look_ahead-requires
look_ahead-requires c =
    let a = c.args in
    let o = a.self.now in
    let given = c.requires.settles in
    let early = c.requires.year_lt_horizon in
    let h = given.sheet.fit.horizon_high in
    record {
      near = omega arith;
      place = omega arith;
      word = omega arith;
      lent = given.lent.room;
      room =
          look_room o.sheet given.sheet replace (omega arith) o.streams.now given.lent a.year early.0 c.put.new.words
          (word_chosen o.sheet given.sheet.fit a.year a.ahead.now a.best early.0 early.1 a.words.now c.put.new.words (omega arith) c.put.ensures.words);
    }

pub returns : goal.returns
returns c =
    let a = c.args in
    let o = a.self.now in
    let given = c.requires.settles in
    let early = c.requires.year_lt_horizon in
    let h = given.sheet.fit.horizon_high in
    let chosen = chosen_tail o.sheet given.sheet.fit a.year a.ahead.now a.best early.0 early.1 in
    record {
      words = λ p read. c.put.ensures.words ∙ ap (λ (best : Best). set a.words.now a.year best.total) (chosen p read);
      firsts = λ p read. c.put.ensures.firsts ∙ ap (λ (best : Best). set a.firsts.now a.year best.end) (chosen p read);
      ahead =
          look_held o.sheet given.sheet replace (omega arith) o.streams.now given.lent a.year early.0 c.put.new.words
          (word_chosen o.sheet given.sheet.fit a.year a.ahead.now a.best early.0 early.1 a.words.now c.put.new.words (omega arith) c.put.ensures.words)
          a.ahead.now c.look_ahead.new.ahead (omega arith) early.1.held c.look_ahead.ensures;
    }
