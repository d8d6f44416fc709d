-- The answer that no tactic finds.
use Prim.Native.Nat.{ℕ, ◌+◌}
use mathlib.Core.Path.{sym, ap, ◌∙◌}
use mathlib.Core.List.{List}
use native.Mathlib.Omega.{arith}
use lib.ListN.{length}
use lib.Seq.{sets}
use Rattle.chain.specs.Chain.{replacements}
use Rattle.chain.proofs.PlanBytesLaws.{ends_left, ends_more}
use Rattle.lines.specs.Lines.{activity_lines}
use Rattle.lines.proofs.PutLaws.{puts_length, puts_left}
use Rattle.lines.proofs.LineLaws.{replaced_next}
use Rattle.lines.proofs.activities.put_replacements.Goals as goal

pub loop-k-preserved : goal.loop-k-preserved
loop-k-preserved c =
    let put = c.put_pair-at.ensures in
    let read = c.end_at-end.ensures in
    let loop = c.loop-k in
    let plan = c.args.plan.now in
    let next = replaced_next loop.year (ends_more plan c.args.count loop.k (omega arith) read.0) in
    let left = puts_left (activity_lines (replacements c.end_at-end.result (ends_left plan c.args.count (loop.k + 1)))) put.puts in record {
      narrow = omega (arith, read.1);
      room = omega (arith, loop.invariant.room, put.short, puts_length put.puts);
      stored = left.0 ∙ ap (sets loop.text loop.at) (sym next) ∙ loop.invariant.stored;
      long = left.1 ∙ ap (λ (l : List ℕ). loop.at + length l) (sym next) ∙ loop.invariant.long;
    }
