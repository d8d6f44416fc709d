-- The ends one after the other: each is read for the year that is reached, and is later. Assumes nothing.
use native.Mathlib.Omega.{arith}
use Rattle.sheet.proofs.ParsedLaws.{horizon_read}
use Rattle.front.proofs.FollowLaws.{reached_last, reached_later, reached_on}
use Rattle.front.proofs.ends_from.Goals as goal

pub loop-year-smaller : goal.loop-year-smaller
loop-year-smaller c =
    let given = c.requires.sheet_fits in
    let later = reached_later c.args.sheet c.args.firsts.now given.1 c.loop-year-test.true given.0 c.loop-year.invariant.reached in
    omega arith

pub loop-year-preserved : goal.loop-year-preserved
loop-year-preserved c =
    let given = c.requires.sheet_fits in
    let early = c.loop-year-test.true in
    let later = reached_later c.args.sheet c.args.firsts.now given.1 early given.0 c.loop-year.invariant.reached in
    let h = given.0.fit.horizon_high in
    record {
      reached = λ p read. reached_on c.args.sheet c.args.firsts.now given.1 early p read (c.loop-year.invariant.reached p read) (omega arith);
      inside = later.1;
      apart = omega arith;
    }

pub returns : goal.returns
returns c p read =
    let T = horizon_read c.args.sheet p read in
    let h = c.requires.sheet_fits.0.fit.horizon_high in
    reached_last p c.args.j c.loop-year.year c.loop-year.count c.loop-year.ends (c.loop-year.invariant.reached p read) (omega arith) (omega arith)
