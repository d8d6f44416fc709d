-- `once_at` reads an amount with its inflation. Assumes nothing.
use Rattle.sheet.specs.Sheet.{once_at}
use Rattle.sheet.specs.Parsed.{flow_of}
use Rattle.sheet.proofs.record.once_at.Goals as goal

pub returns : goal.returns
unfolding once_at flow_of
returns c =
    λ i. record { amount = c.u32_at.ensures.0 i; grow = c.factor_at.ensures i; age = 1_000_000 }
