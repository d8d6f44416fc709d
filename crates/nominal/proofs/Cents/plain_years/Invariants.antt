-- Plain steps, one after the other: after each the amount is that of as many steps. Assumes nothing.
use Prim.Native.Nat.{◌≤◌}
use mathlib.Core.Path.{◌≡◌}
use Rattle.steps.specs.Step.{repeated}
use Rattle.nominal.specs.Nominal.{nominal_plain}
use Rattle.nominal.proofs.Cents.plain_years.Given as goal

abbrev pub invariant-loop : goal.invariant-loop
invariant-loop l = (l.counter ≤ l.years) × (l.now.0 ≡ repeated l.counter (nominal_plain l.general l.grow) l.initial.now.0)
