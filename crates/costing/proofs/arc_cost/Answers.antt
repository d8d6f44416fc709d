-- The cost of an arc of a sheet: that of the option which the sheet's terms give, kept from the start. Assumes nothing.
use mathlib.Core.Path.{ap, sym, subst, ◌∙◌}
use Prim.Native.Nat.{◌≤◌}
use native.Mathlib.Omega.{arith}
use Rattle.base.specs.Outcome.{place}
use Rattle.base.proofs.OutcomeLaws.{place_lt}
use Rattle.sheet.proofs.ParsedLaws.{horizon_read}
use Rattle.costing.specs.Fit.{KeptFits}
use Rattle.costing.specs.declared.Kept.{Kept}
use Rattle.costing.proofs.SheetArcLaws.{kept_of_fits, kept_of-room, kept_read, cost_whole}
use Rattle.costing.proofs.arc_cost.Goals as goal

pub returns : goal.returns
returns c =
    let a = c.args in
    let h = c.requires in
    let known : place a.activity ≤ 2 = omega (arith, place_lt a.activity) in record {
      units = λ p read.
          c.cost.ensures
          ∙ cost_whole p (place a.activity) a.start a.end (c.kept_of-kept.ensures ∙ kept_read p _ _ _ _ read known) (rw c.from.ensures at c.pays_removal.ensures)
          (horizon_read _ p read);
      room = kept_of-room _ h.0 _ _ _ known h.1 h.2 _ c.kept_of-kept.ensures c.cost.ensures;
    }

pub of-requires : goal.of-requires
of-requires c = let fit = c.requires.0 in (fit.discount_low, omega (arith, fit.discount_high))

pub cost-requires : goal.cost-requires
cost-requires c =
    let d = c.of.ensures in (
      record {
        fits = subst KeptFits (sym c.kept_of-kept.ensures) (kept_of_fits _ c.requires.0 _ _ (omega (arith, place_lt c.args.activity)) (omega arith));
        divides = record { ready = d.ready; number = d.number ∙ sym (ap (λ (a : Kept). a.discount) c.kept_of-kept.ensures) };
      },
      omega (arith, c.requires.0.horizon_high),
    )
