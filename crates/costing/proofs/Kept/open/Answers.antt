-- The investment and the running amounts of both flows, each after its steps up to the start. Assumes nothing.
use Prim.Native.Nat.{ℕ}
use mathlib.Core.Path.{sym, subst}
use Rattle.checking.specs.Fit.{FlowFits}
use Rattle.costing.specs.Arc.{electricity}
use Rattle.costing.proofs.WalkLaws.{walk-zero}
use Rattle.costing.proofs.Kept.open.Goals as goal

pub running-requires : goal.running-requires
running-requires c =
    let h = c.requires.fits in
    let d = c.requires.divides in (
      record {
        ready = d.ready;
        low = rw d.number h.low;
        high = rw d.number h.high;
        fits = subst (λ (by : ℕ). FlowFits by c.args.self.terms.electricity) (sym d.number) h.terms.electricity;
      },
      h.since,
      h.from,
    )

pub returns : goal.returns
unfolding electricity
returns c =
    walk-zero _ c.requires.divides.number c.paid_once.ensures c.paid_once-2.ensures c.running.ensures
