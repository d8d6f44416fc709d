-- The ends that are passed over change nothing, and the one that is found is taken. Assumes nothing.
use Prim.Native.Nat.{◌+◌, ◌≤◌}
use native.Mathlib.Omega.{arith}
use mathlib.Core.Path.{◌≡◌, ap, ◌∙◌}
use Rattle.choice.specs.Running.{no_total}
use Rattle.weighing.specs.Ends.{word_of}
use Rattle.weighing.proofs.EndLaws.{ends_all}
use Rattle.weighing.proofs.NextLaws.{sum_read, sum_fits, next_first, next_stays, next_taken}
use Rattle.weighing.proofs.best_of.Goals as goal

pub loop-n-init : goal.loop-n-init
loop-n-init c =
    let a = c.args in
    record {
      within = omega arith;
      old = λ l. omega arith;
      weighed = next_first a.kept (word_of a.words.now) a.best c.min-first.result (omega arith);
    }

pub overflow_add-chosen : goal.overflow_add-chosen
overflow_add-chosen c =
    let a = c.args in
    let n = c.in-Some.n in
    let next = c.in-Some.ensures in
    let some : word_of a.words.now (a.kept.from + n + 1) ≡ no_total → ⊥ =
    λ q. (next.0.found next.1).0 (ap (word_of a.words.now) (omega arith) ∙ q) in
    record {
      fits =
          sum_fits a.kept a.words.now a.costs.now a.horizon n (omega arith) (omega arith) (a.kept.from + n + 1) (omega arith) c.requires.0
          c.requires.1 some;
    }

pub loop-n-preserved : goal.loop-n-preserved
loop-n-preserved c =
    let a = c.args in
    let n = c.in-Some.n in
    let h = c.loop-n.invariant in
    let next = c.in-Some.ensures in
    let word = word_of a.words.now in
    let early : a.kept.terms.shortest ≤ n + 1 = omega (arith, h.old (omega (arith, next.0.from)), next.0.from) in
    record {
      within = omega arith;
      old = λ l. omega (arith, early);
      weighed =
          next_taken a.kept word a.best c.loop-n.chosen n (next_stays a.kept word a.best _ _ _ _ h.weighed next.0)
          (next.0.found next.1) early (omega arith) (omega arith)
          (sum_read a.kept a.words.now a.costs.now a.horizon n (omega arith) (omega arith) (a.kept.from + n + 1) (omega arith)
          c.requires.0.known);
    }

pub returns : goal.returns
returns c =
    let a = c.args in
    let word = word_of a.words.now in
    next_stays a.kept word a.best _ _ _ _ c.loop-n.invariant.weighed c.in_default.ensures.0
    ∙ ends_all a.kept word a.best a.horizon c.min-years.result (omega arith) (omega arith)
