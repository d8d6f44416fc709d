-- Both lists: cleared, and raised by what the chain pays. Assumes nothing.
use Prim.Native.Nat.{ℕ}
use mathlib.Core.Path.{ap, subst, ◌∙◌}
use native.Mathlib.Omega.{arith}
use borrow.Author.Tests.{leb-true}
use Rattle.sheet.proofs.ParsedLaws.{horizon_read, discount_read}
use Rattle.checking.specs.Fit.{Fit}
use Rattle.steps.specs.Payment.{rounded}
use Rattle.chain.specs.Chain.{arcs}
use Rattle.chain.specs.PlanBytes.{decode}
use Rattle.spreading.specs.Raised.{Raised}
use Rattle.budget.specs.Budget.{payments_of, last_in_cents}
use Rattle.budget.proofs.FillLaws.{units_written, cents_written}
use Rattle.budget.proofs.filling.fill.Goals as goal

pub clear-requires-2 : goal.clear-requires-2
clear-requires-2 c = omega (arith, c.requires.0.cents_long, c.last_in_cents.ensures)

pub add_chain-requires : goal.add_chain-requires
add_chain-requires c =
    let h = c.requires.0 in
    let d = c.of-discount.ensures in
    let long = h.units_long in (
      record {
        fit = h.fit;
        suits = record { ready = d.ready; number = d.number };
        room = record {
          long = λ y early t. omega (arith, c.clear.auto.words);
          low = λ y early t. omega (arith, c.clear.ensures.cleared y early);
        };
      },
      c.requires.1,
    )

pub add_chain-requires-2 : goal.add_chain-requires-2
add_chain-requires-2 c =
    let h = c.requires.0 in
    let last = c.last_in_cents.ensures in
    let long = h.cents_long in (
      record {
        fit = h.fit;
        suits = record { inflation = omega (arith, h.inflation); early = omega arith };
        room = record {
          long = λ y early t. let by = leb-true y c.last_in_cents.result t in omega (arith, c.clear-2.auto.words);
          low = λ y early t. omega (arith, c.clear-2.ensures.cleared y (leb-true y c.last_in_cents.result t));
        };
      },
      c.requires.1,
    )

pub returns : goal.returns
returns c =
    let a = c.args in
    let h = c.requires.0 in
    let plan = a.plan.now in
    let last = c.last_in_cents.result in
    record {
      units = λ p is feasible.
          units_written a.units.now c.clear.new.words c.add_chain.new.words a.sheet.horizon h.units_long (c.add_chain.auto.words ∙ c.clear.auto.words)
          c.clear.ensures.cleared c.clear.ensures.behind p (subst Fit is h.fit) plan (horizon_read _ p is) feasible
          (subst (λ (d : ℕ). Raised (rounded d) c.clear.new.words c.add_chain.new.words (payments_of (arcs p (decode plan))))
          (c.of-discount.ensures.number ∙ discount_read _ p is) (c.add_chain.ensures p is));
      cents = λ p is.
          cents_written a.cents.now c.clear-2.new.words c.add_chain-2.new.words last (omega (arith, h.cents_long, c.last_in_cents.ensures))
          (c.add_chain-2.auto.words ∙ c.clear-2.auto.words) c.clear-2.ensures.cleared c.clear-2.ensures.behind p a.general plan
          (c.last_in_cents.ensures ∙ ap last_in_cents (horizon_read _ p is)) (c.add_chain-2.ensures p is);
    }
