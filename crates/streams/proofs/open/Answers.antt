-- An arc before its first year has the values of the year in which it starts. Assumes nothing.
use mathlib.Core.Path.{refl, ap, sym, ◌∙◌}
use Prim.Native.Nat.{ℕ}
use native.Mathlib.Nat.{zero-add}
use lib.ListN.{get_or}
use Rattle.costing.proofs.WalkLaws.{walk-zero}
use Rattle.streams.proofs.open.Goals as goal

pub returns : goal.returns
returns c =
    let from = c.args.kept.from in
    let h = c.requires.streams in
    let streams = h.0 in
    walk-zero c.args.kept refl
    (ap (λ (k : ℕ). get_or c.args.streams.now k 0) (sym (zero-add from)) ∙ streams.investment from h.1)
    (streams.maintenance from h.1) c.requires.power_value
