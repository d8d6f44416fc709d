-- One year more is walked, and its end weighed. Assumes nothing.
use Prim.Native.Nat.{ℕ, ◌+◌}
use mathlib.Core.Path.{refl, ap, sym, ◌∙◌}
use native.Mathlib.Omega.{arith}
use Rattle.costing.specs.Walk.{walk_at}
use Rattle.costing.proofs.WalkLaws.{walk-years}
use Rattle.choice.proofs.RunningLaws.{over_zero}
use Rattle.streams.proofs.FallLaws.{falls_zero}
use Rattle.weighing.specs.Best.{numbers}
use Rattle.weighing.specs.Ends.{word_of}
use Rattle.weighing.proofs.EndLaws.{end_next, end_paid, end_fits, ends_all}
use Rattle.weighing.proofs.best_end.Goals as goal

pub loop-n-init : goal.loop-n-init
loop-n-init c =
    record {
      walks = c.open-walk.ensures;
      years = walk-years c.args.kept c.open-walk.result 0 c.open-walk.ensures;
      falls = falls_zero _;
      weighed = sym (over_zero numbers _ _ _ _ _);
    }

pub weigh-chosen-requires : goal.weigh-chosen-requires
weigh-chosen-requires c =
    let kept = c.args.kept in
    let n = c.loop-n.n in
    let walks = c.year-walk.ensures ∙ ap (λ (n : ℕ). walk_at kept (n + 1)) c.loop-n.invariant.years in
    end_fits kept c.requires.0.steps.fits c.args.horizon n c.args.words.now c.requires.1 (omega arith) (end_paid kept _ n walks) (omega arith)

pub loop-n-preserved : goal.loop-n-preserved
loop-n-preserved c =
    let kept = c.args.kept in
    let n = c.loop-n.n in
    let h = c.loop-n.invariant in
    let walks = c.year-walk.ensures ∙ ap (λ (n : ℕ). walk_at kept (n + 1)) h.years in
    record {
      walks = walks;
      years = walk-years kept _ (n + 1) walks;
      falls = c.due-due.ensures.next;
      weighed =
          c.weigh-chosen.ensures
          ∙ end_next kept (word_of c.args.words.now) c.args.best c.loop-n.chosen n h.weighed (omega arith) (omega arith)
          (end_paid kept _ n walks) refl;
    }

pub returns : goal.returns
returns c =
    let kept = c.args.kept in
    c.loop-n.invariant.weighed
    ∙ ends_all kept (word_of c.args.words.now) c.args.best c.args.horizon c.loop-n.n (omega arith) (omega arith)
