-- `flow_at` reads an amount with its inflation and its ageing. Assumes nothing.
use Prim.Native.Nat.{◌+◌}
use Rattle.sheet.specs.Sheet.{expense_at}
use Rattle.sheet.specs.Parsed.{flow_of}
use Rattle.sheet.proofs.record.flow_at.Goals as goal

pub returns : goal.returns
unfolding expense_at flow_of
returns c =
    λ i.
    record {
      amount = c.u32_at.ensures.0 i;
      grow = c.factor_at.ensures i;
      age = 1_000_000 + c.u32_at-2.ensures.0 i;
    }
