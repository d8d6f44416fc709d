-- One year more. Assumes nothing.
use mathlib.Core.Path.{◌∙◌}
use Prim.Native.Nat.{◌+◌}
use native.Mathlib.Omega.{arith}
use native.Mathlib.Numerals.{add-one}
use lib.ListN.{length-set}
use Rattle.streams.proofs.FillLaws.{reached_next, left_next}
use Rattle.streams.proofs.filling.stepped.Goals as goal

pub loop-year-preserved : goal.loop-year-preserved
loop-year-preserved g c =
    let at = c.args.at in
    let loop = c.loop-year in
    let h = loop.invariant in
    record {
      running = rw (add-one loop.year) (loop.value, h.running, c.step-value.ensures);
      size = length-set loop.streams (at + loop.year) loop.value.0 ∙ h.size;
      written = reached_next _ c.args.first at loop.year loop.streams loop.value (omega arith) h.running h.written;
      left = left_next loop.streams c.args.streams.now at loop.year loop.value.0 h.left;
    }
