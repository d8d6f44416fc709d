-- Refusal 8 on factors is refusal 8; the product fits, since both factors were tested. Assumes nothing.
use native.Mathlib.Omega.{arith}
use Rattle.checking.proofs.RuleLaws.{product_fits, ageing_old, ageing_grown, ageing_tested}
use Rattle.checking.proofs.option.ageing_ok.Goals as goal

pub returns-then-w-gt1300000 : goal.returns-then-w-gt1300000
returns-then-w-gt1300000 c = λ r e d w. ageing_old _ r d _ e w c.if-w-gt1300000.true

pub returns-then-discount-w : goal.returns-then-discount-w
returns-then-discount-w c = λ r e d w. ageing_grown _ r d _ e w c.if-discount-w.true

pub overflow_mul-result : goal.overflow_mul-result
overflow_mul-result c =
    let w = c.args.w in
    omega (arith, product_fits w.grow w.age (omega arith) (omega arith))

pub returns : goal.returns
returns c = λ r e d w. ageing_tested _ r d _ e w (omega arith)
