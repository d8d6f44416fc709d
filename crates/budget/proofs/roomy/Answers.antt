-- The test, as the definition has it. Assumes nothing.
use Prim.Native.Nat.{ℕ}
use mathlib.Core.Path.{ap}
use mathlib.Core.Bool.{◌&&◌}
use lib.Dec.{ltb}
use Rattle.budget.proofs.roomy.Goals as goal

pub returns : goal.returns
returns c = ap (λ (n : ℕ). ltb c.args.horizon c.args.units && ltb n c.args.cents) c.last_in_cents.ensures
