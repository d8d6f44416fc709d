-- Plain steps from 10^12 with no growth, by the divisor of the discount factor. Assumes nothing.
use Prim.Native.Nat.{ℕ}
use mathlib.Core.Path.{ap, ◌∙◌}
use Rattle.steps.specs.Step.{plain, repeated}
use Rattle.factors.specs.PresentWorth.{at_once, present_worth}
use Rattle.factors.proofs.stepped.Goals as goal

pub returns : goal.returns
unfolding present_worth
returns c =
    let a = c.args in
    c.plain_years.ensures ∙ ap (λ (d : ℕ). repeated a.year (plain 1_000_000 d) at_once) c.of-discount.ensures.number
