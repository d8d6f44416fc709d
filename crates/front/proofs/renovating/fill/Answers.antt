-- Renovating from each year in which maintaining may end: its choice is made by what is lent for it. Assumes nothing.
use Prim.Native.Nat.{ℕ}
use native.Mathlib.Omega.{arith}
use lib.ListN.{length-set}
use Rattle.sheet.specs.Sheet.{renovate}
use Rattle.front.proofs.KeptLaws.{lent_asks, ahead_fit}
use Rattle.front.proofs.RenovationLaws.{renovated_past, renovated_next, renovated_all}
use Rattle.front.proofs.renovating.fill.Goals as goal

pub best_from-best-requires : goal.best_from-best-requires
best_from-best-requires c =
    let l = c.args.lent.now in
    let h = c.requires.renovate_lent in
    let behind = c.requires.behind.1 in
    let asks =
    lent_asks l.sheet h.sheet.fit l.discount h.divides renovate c.loop-i.i l.streams.now l.ages.now _ (omega arith) (omega arith) h.lent behind.room
    (ahead_fit l.sheet h.sheet c.loop-i.i _ behind) c.kept_of-kept.ensures in
    record { walks = asks.0; words_behind = asks.1 }

pub loop-i-preserved : goal.loop-i-preserved
loop-i-preserved c =
    let behind = c.requires.behind in
    renovated_next c.args.lent.now.sheet c.requires.renovate_lent.sheet c.loop-i.invariant c.args.words.now c.args.ahead.now behind.0 behind.1
    (omega arith) (omega arith) (omega arith) c.kept_of-kept.ensures c.best_from-best.ensures

pub returns-else-i-gt0 : goal.returns-else-i-gt0
returns-else-i-gt0 c =
    let s = c.args.lent.now.sheet in
    let some = c.requires.renovate_lent.sheet in
    let behind = c.requires.behind in
    let last =
    renovated_next s some c.loop-i.invariant c.args.words.now c.args.ahead.now behind.0 behind.1 (omega arith) (omega arith) (omega arith)
    c.kept_of-kept.ensures c.best_from-best.ensures in
    renovated_all s some last (omega arith) (omega (arith, length-set {A = ℕ})) (omega (arith, length-set {A = ℕ}))

pub returns-then-i-shortest : goal.returns-then-i-shortest
returns-then-i-shortest c =
    let s = c.args.lent.now.sheet in
    let some = c.requires.renovate_lent.sheet in
    renovated_all s some (renovated_past s some c.loop-i.invariant (omega arith) (omega arith)) (omega arith) (omega arith) (omega arith)
