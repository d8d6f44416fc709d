-- The overhauls of a year: the next one, if its age has come, and no other. Assumes nothing.
use mathlib.Core.Path.{sym, ap, ◌∙◌}
use mathlib.Core.List.{List}
use Prim.Native.Nat.{ℕ}
use native.Mathlib.Omega.{arith}
use lib.ListN.{get_or}
use Rattle.steps.specs.Payment.{rounded, once}
use Rattle.costing.specs.Arc.{age_of}
use Rattle.streams.proofs.FallLaws.{falls_none, falls_one}
use Rattle.streams.proofs.due.Goals as goal

pub returns-then-ages-next : goal.returns-then-ages-next
unfolding age_of
returns-then-ages-next c =
    let held =
    let a = c.args in
    let o = a.kept.terms.overhauls in
    let used = c.if-next-count.true in
    let age = ap (λ (l : List ℕ). get_or l a.next 0) c.requires.kept_fits.1 in
    falls_one a.kept c.requires.kept_fits.0 a.n a.next c.requires.kept_fits.2 used (sym age ∙ c.if-ages-next.true)
    (c.requires.streams.0.overhauls a.next used _ (omega arith)
    ∙ ap (λ (y : ℕ). rounded a.kept.discount (once (get_or o.amounts a.next 0) o.grow y)) (omega arith)) in
    record { units = held.0; next = held.1 }

pub returns-else-ages-next : goal.returns-else-ages-next
unfolding age_of
returns-else-ages-next c =
    let held =
    let a = c.args in
    let age = ap (λ (l : List ℕ). get_or l a.next 0) c.requires.kept_fits.1 in
    falls_none a.kept c.requires.kept_fits.0 a.n a.next c.requires.kept_fits.2 (λ used e. c.if-ages-next.false (age ∙ e)) in
    record { units = held.0; next = held.1 }

pub returns-else-next-count : goal.returns-else-next-count
returns-else-next-count c =
    let held =
    let a = c.args in
    falls_none a.kept c.requires.kept_fits.0 a.n a.next c.requires.kept_fits.2 (λ used e. omega (arith, c.if-next-count.false)) in
    record { units = held.0; next = held.1 }
