-- The lines of replacements are put one behind another: those of the ends that are left, behind what stands, are all. Assumes nothing.
use Prim.Native.Nat.{◌+◌, ◌-◌, ◌*◌, ◌≤◌}
use mathlib.Core.Path.{◌≡◌}
use lib.ListN.{length}
use lib.Seq.{sets}
use Rattle.chain.specs.Chain.{replacements}
use Rattle.chain.specs.PlanBytes.{ends_at}
use Rattle.chain.proofs.PlanBytesLaws.{ends_left}
use Rattle.lines.specs.Lines.{activity_lines}
use Rattle.lines.proofs.activities.put_replacements.Given as goal

abbrev pub invariant-loop-k : goal.invariant-loop-k
invariant-loop-k l =
    let rest = activity_lines (replacements l.year (ends_left l.plan l.count l.k)) in
    let all = activity_lines (replacements l.first (ends_at l.plan 19 l.count)) in record {
      narrow : l.year ≤ 65_535;
      room : l.at + 20 * (l.count - l.k) ≤ length l.text;
      stored : sets l.text l.at rest ≡ sets l.initial.text l.start all;
      long : l.at + length rest ≡ l.start + length all;
    }
