-- The years from which the writing goes on in pairs: T alone, where nothing is left to be done and no removal is paid, or with the year before it.
-- Assumes nothing.
use Prim.Native.Nat.{ℕ, ◌+◌, ◌-◌}
use mathlib.Core.Path.{◌≡◌, subst}
use native.Mathlib.Omega.{arith}
use lib.ListN.{set}
use Rattle.sheet.specs.Sheet.{replace}
use Rattle.tails.specs.Words.{total_of, first_end}
use Rattle.tails.specs.Writing.{AheadHeld}
use Rattle.tails.proofs.WritingLaws.{last_first, last_more}
use Rattle.tails.proofs.AheadLaws.{ahead_last}
use Rattle.tails.proofs.Lent.last_years.Goals as goal

pub returns-then-horizon-eq0-clause-words : goal.returns-then-horizon-eq0-clause-words
returns-then-horizon-eq0-clause-words c = last_first total_of c.args.self.now.sheet c.args.words.now _ c.put.ensures.words (omega arith)

pub returns-then-horizon-eq0-clause-firsts : goal.returns-then-horizon-eq0-clause-firsts
returns-then-horizon-eq0-clause-firsts c = last_first first_end c.args.self.now.sheet c.args.firsts.now _ c.put.ensures.firsts (omega arith)

pub returns-then-horizon-eq0-clause-ahead : goal.returns-then-horizon-eq0-clause-ahead
returns-then-horizon-eq0-clause-ahead c =
    let h = c.requires.sheet.fit.horizon_high in
    ahead_last c.args.self.now.sheet c.requires.sheet replace (omega arith) c.args.ahead.now (omega arith)

pub one_year-requires-clause-year_lt_horizon : goal.one_year-requires-clause-year_lt_horizon
one_year-requires-clause-year_lt_horizon c =
    let s = c.args.self.now.sheet in
    let ahead = c.args.ahead.now in
    let h = c.requires.sheet.fit.horizon_high in
    let T : s.horizon ≡ s.horizon - 1 + 1 = omega (arith, c.requires.sheet.fit.horizon_low) in (
      omega (arith, T),
      subst (λ (y : ℕ). AheadHeld replace s y (set ahead s.horizon 0)) T
          (ahead_last s c.requires.sheet replace (omega arith) ahead (omega arith)),
    )

pub returns-clause-words : goal.returns-clause-words
returns-clause-words c =
    last_more total_of c.args.self.now.sheet c.args.words.now c.args.self.now.sheet.horizon (omega arith) _
    (last_first total_of c.args.self.now.sheet c.args.words.now _ c.put.ensures.words (omega arith)) _ (omega arith) c.one_year.ensures.words

pub returns-clause-firsts : goal.returns-clause-firsts
returns-clause-firsts c =
    last_more first_end c.args.self.now.sheet c.args.firsts.now c.args.self.now.sheet.horizon (omega arith) _
    (last_first first_end c.args.self.now.sheet c.args.firsts.now _ c.put.ensures.firsts (omega arith)) _ (omega arith) c.one_year.ensures.firsts
