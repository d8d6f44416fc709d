-- Every year from T down, two at a time from an even year. Assumes nothing.
use Prim.Native.Nat.{◌-◌, ◌*◌, ◌/◌, ◌≤◌}
use mathlib.Core.Path.{◌≡◌}
use native.Mathlib.Omega.{arith}
use Rattle.tails.specs.Words.{total_of, first_end}
use Rattle.tails.proofs.WritingLaws.{last_same, last_two, last_all}
use Rattle.tails.proofs.Lent.fill.Goals as goal

pub loop-pair-init : goal.loop-pair-init
loop-pair-init c =
    let l = c.last_years-last in
    let s = c.args.self.now.sheet in
    let even : l.result ≡ 2 * (l.result / 2) = omega arith in
    record {
      words = last_same total_of s c.args.words.now _ _ even l.new.words l.ensures.words;
      firsts = last_same first_end s c.args.firsts.now _ _ even l.new.firsts l.ensures.firsts;
      ahead = λ p read e m u. l.ensures.ahead p read e (omega arith) u;
    }

pub two_years-requires-clause-le_reached : goal.two_years-requires-clause-le_reached
two_years-requires-clause-le_reached c =
    let reached = c.last_years-last.ensures.reached in
    (omega arith, omega arith, c.loop-pair.invariant.ahead)

pub loop-pair-preserved : goal.loop-pair-preserved
loop-pair-preserved c =
    let s = c.args.self.now.sheet in
    let h = c.loop-pair.invariant in
    let t = c.two_years in
    let pair = c.loop-pair.pair in
    let reached = c.last_years-last.ensures.reached in
    let early : 2 * pair ≤ s.horizon = omega arith in
    let some : 2 ≤ 2 * pair = omega arith in
    let next : 2 * pair - 2 ≡ 2 * (pair - 1) = omega arith in
    record {
      words =
          last_same total_of s c.args.words.now _ _ next t.new.words
          (last_two total_of s c.args.words.now (2 * pair) early c.loop-pair.words h.words t.new.words some t.ensures.words);
      firsts =
          last_same first_end s c.args.firsts.now _ _ next t.new.firsts
          (last_two first_end s c.args.firsts.now (2 * pair) early c.loop-pair.firsts h.firsts t.new.firsts some t.ensures.firsts);
      ahead = λ p read e m u. t.ensures.ahead p read e (omega arith) u;
    }

pub returns : goal.returns
returns c =
    let h = c.loop-pair.invariant in
    record {
      words = last_all total_of c.args.self.now.sheet c.args.words.now (2 * c.loop-pair.pair) c.loop-pair.words h.words (omega arith);
      firsts = last_all first_end c.args.self.now.sheet c.args.firsts.now (2 * c.loop-pair.pair) c.loop-pair.firsts h.firsts (omega arith);
    }
