-- `factor_of`: two's complement, then 1,000,000 more; 0 where that is negative. Assumes nothing.
use native.Mathlib.Omega.{arith}
use Rattle.sheet.proofs.FactorLaws.{factor_positive, factor_none, factor_negative}
use Rattle.sheet.proofs.fields.factor_of.Goals as goal

pub returns-then-x-lt2147483648 : goal.returns-then-x-lt2147483648
returns-then-x-lt2147483648 c = factor_positive _ (omega arith)

pub returns-then-x-lt4293967296 : goal.returns-then-x-lt4293967296
returns-then-x-lt4293967296 c = factor_none c.args.x (omega arith) (omega arith)

pub returns : goal.returns
returns c = factor_negative _ (omega arith) (omega arith)
