-- The totals behind the ends of renovating: each is made from the word of its year. Assumes nothing.
use Prim.Native.Nat.{ℕ, ◌-◌}
use native.Mathlib.Omega.{arith}
use lib.ListN.{length-set}
use Rattle.sheet.specs.Sheet.{renovate}
use Rattle.tails.proofs.AheadLaws.{ahead_last, look_room, look_held}
use Rattle.front.proofs.RenovationLaws.{word_held}
use Rattle.front.proofs.renovating.look_ahead.Goals as goal

pub loop-year-init : goal.loop-year-init
loop-year-init c =
    let some = c.requires.sheet_fits.0 in
    let h = some.fit.horizon_high in
    ahead_last c.args.lent.now.sheet some renovate (omega arith) c.args.ahead.now (omega (arith, c.requires.sheet_fits.1))

pub look_ahead-requires : goal.look_ahead-requires
look_ahead-requires c =
    let a = c.args in
    let some = c.requires.sheet_fits.0 in
    let h = some.fit.horizon_high in
    let lent = c.requires.streams_of.0 in
    let words = c.requires.streams_of.1 in
    let y = c.loop-year.year - 1 in
    record {
      near = omega arith;
      place = omega (arith, length-set {A = ℕ});
      word = omega (arith, words.room);
      lent = lent.room;
      room =
          look_room a.lent.now.sheet some renovate (omega arith) a.lent.now.streams.now lent y (omega arith) a.words.now
          (word_held a.lent.now.sheet a.words.now words y (omega arith));
    }

pub loop-year-preserved : goal.loop-year-preserved
loop-year-preserved c =
    let a = c.args in
    let some = c.requires.sheet_fits.0 in
    let h = some.fit.horizon_high in
    let y = c.loop-year.year - 1 in
    look_held a.lent.now.sheet some renovate (omega arith) a.lent.now.streams.now c.requires.streams_of.0 y (omega arith) a.words.now
    (word_held a.lent.now.sheet a.words.now c.requires.streams_of.1 y (omega arith)) c.loop-year.ahead c.look_ahead.new.ahead (omega (arith, length-set {A = ℕ}))
    (λ p read e l u. c.loop-year.invariant p read e (omega arith) u) c.look_ahead.ensures

pub returns : goal.returns
returns c = record { room = omega (arith, length-set {A = ℕ}); held = λ p read e inside. c.loop-year.invariant p read e (omega arith) inside }
