-- The laws of the two ledgers, of present values in units and of money of the year. In order:
--     units-small, units-fit, units-next      units: how large a payment is, that it leaves room for a year in service more, and what that gives
--     units-new      a flow in its first year pays what an amount paid once does
--     cents-counted, cents-uncounted, cents-earlier      cents: of the years up to the last, and none of later ones
--     cents-small, cents-fit, cents-next, cents-new      as for units, in a year that is counted
-- Assumes nothing.
use Prim.Native.Nat.{ℕ, suc, ◌+◌, ◌-◌, ◌*◌, ◌≤◌}
use mathlib.Core.Path.{◌≡◌, refl, ap, ◌∙◌}
use mathlib.Core.Bool.{true, false}
use native.Mathlib.Omega.{arith}
use lib.Dec.{leb}
use borrow.Author.Tests.{leb-true, le-leb}
use Rattle.base.proofs.TestLaws.{by_test}
use Rattle.sheet.specs.declared.Flow.{Flow}
use Rattle.division.specs.declared.Divisor.{Divisor}
use Rattle.steps.specs.Step.{plain, in_service, repeated}
use Rattle.steps.specs.Payment.{Payment, year, rounded, once}
use Rattle.steps.specs.Fit.{largest_payment, ServiceFits, Divides}
use Rattle.steps.proofs.RoomLaws.{services_le, plains_le}
use Rattle.costing.specs.Arc.{in_year}
use Rattle.nominal.specs.Nominal.{nominal_in_service, cents}
use Rattle.nominal.specs.Fit.{largest_cents, CentsFit}
use Rattle.nominal.proofs.SizeLaws.{cents-le}
use Rattle.spreading.specs.Raised.{up_to, in_money}
use Rattle.spreading.specs.Asks.{MoneyFits, Payable}
use Rattle.spreading.specs.declared.Money.{Money}

-- the steps in service by the year behind year y
next-served : (s y : ℕ) → s ≤ y → y + 1 - s + 0 ≡ suc (y - s + 0)
next-served s y old = omega arith

new-served : (y : ℕ) → y - y + 0 ≡ 0
new-served y = omega arith

module _ (d : Divisor) where
  module _ (q : Payment) (h : Payable (Divides d) q) where
    pub units-small : q.served ≤ 600 → rounded d.by q ≤ largest_payment
    unfolding rounded
    units-small few =
        let n = h.suits.number in
        let low = h.low in
        let amount = h.amount in
        let grown : q.grow ≤ d.by = rw n h.rates.grown in
        let product : q.grow * q.age ≤ 1_000_000 * d.by = rw n h.rates.product in
        let flat = plains_le q.grow d.by (omega arith) grown q.plainly (q.amount * 10_000) in
        let up = services_le q.grow q.age d.by (omega arith) grown product q.served (repeated q.plainly (plain q.grow d.by) (q.amount * 10_000)) in
        omega arith

    pub units-fit : q.served ≤ 600 → ServiceFits q.grow q.age d.by (rounded d.by q)
    units-fit few =
        let n = h.suits.number in
        record {
          plainly = record { low = rw n h.low; high = rw n h.high; grown = rw n h.rates.grown; room = units-small few };
          aged = h.aged;
          product = rw n h.rates.product;
        }

  pub units-next :
      (w : Flow) (s y : ℕ) {a b : ℕ} → s ≤ y
      → a ≡ rounded d.by (in_year w s y 0) → b ≡ in_service w.grow w.age d.by a → b ≡ rounded d.by (in_year w s (y + 1) 0)
  unfolding rounded in_year repeated
  units-next w s y old now step = rw (next-served s y old) (step ∙ ap (in_service w.grow w.age d.by) now)

  pub units-new : (w : Flow) (y : ℕ) → rounded d.by (once w.amount w.grow y) ≡ rounded d.by (in_year w y y 0)
  unfolding rounded once in_year repeated
  units-new w y = rw (new-served y) refl

module _ (m : Money) where
  pub cents-counted : (q : Payment) → leb (year q) m.last ≡ true → in_money m q ≡ cents m.general q
  unfolding up_to
  cents-counted q t = rw t

  pub cents-uncounted : (q : Payment) → leb (year q) m.last ≡ false → in_money m q ≡ 0
  unfolding up_to
  cents-uncounted q t = rw t

  pub cents-earlier : (y z : ℕ) → y ≤ z → leb z m.last ≡ true → leb y m.last ≡ true
  cents-earlier y z l t = le-leb y m.last (let early = leb-true z m.last t in omega arith)

  module _ (q : Payment) (h : Payable (λ (discount : ℕ). MoneyFits m) q) where
    cents_le : leb (year q) m.last ≡ true → cents m.general q ≤ largest_cents
    cents_le t =
        let by = leb-true (year q) m.last t in
        let early = h.suits.early in
        cents-le m.general h.discount q h.suits.inflation h.high h.rates h.amount (omega arith)

    pub cents-small : in_money m q ≤ largest_payment
    cents-small = by_test (leb (year q) m.last) (λ t. rw (cents-counted q t) (omega (arith, cents_le t))) (λ t. rw (cents-uncounted q t) (omega arith))

    pub cents-fit : leb (year q) m.last ≡ true → CentsFit m.general q.grow (in_money m q)
    cents-fit t =
        let high = h.high in
        record { inflation = h.suits.inflation; grown = omega (arith, h.rates.grown); room = rw (cents-counted q t) (cents_le t) }

  -- a flow falls in the year in which it stands
  pub in_year-counted : (w : Flow) (s y : ℕ) → s ≤ y → leb y m.last ≡ true → leb (year (in_year w s y 0)) m.last ≡ true
  unfolding year in_year
  in_year-counted w s y old t = let same : s + (y - s + 0) ≡ y = omega arith in rw same t

  pub cents-next :
      (w : Flow) (s y : ℕ) {a b : ℕ} → s ≤ y → leb (y + 1) m.last ≡ true
      → a ≡ in_money m (in_year w s y 0) → b ≡ nominal_in_service m.general w.grow w.age a → b ≡ in_money m (in_year w s (y + 1) 0)
  unfolding cents in_year repeated
  cents-next w s y old late now step =
      rw (cents-counted (in_year w s (y + 1) 0) (in_year-counted w s (y + 1) (omega arith) late), next-served s y old)
      (step
      ∙ ap (nominal_in_service m.general w.grow w.age)
      (now ∙ cents-counted (in_year w s y 0) (in_year-counted w s y old (cents-earlier y (y + 1) (omega arith) late))))

  pub cents-new : (w : Flow) (y : ℕ) → in_money m (once w.amount w.grow y) ≡ in_money m (in_year w y y 0)
  unfolding up_to cents once in_year year repeated
  cents-new w y = rw (new-served y) refl
