use native.Mathlib.Omega.{arith}
use Rattle.decimals.proofs.Decimals.{digit_next, digit_low, reading_next, reading_all, reading_small}
use Rattle.decimals.proofs.number_in.Goals as goal

pub overflow_mul-v : goal.overflow_mul-v
overflow_mul-v c = let h = reading_small _ _ _ c.loop-digit.invariant (omega arith) in omega arith

pub overflow_sub-v : goal.overflow_sub-v
overflow_sub-v c = digit_low _ (digit_next _ _ _ c.loop-digit.invariant c.loop-digit-test.true)

pub overflow_add-v : goal.overflow_add-v
overflow_add-v c =
    let h = reading_small _ _ _ c.loop-digit.invariant (omega arith) in
    let k = c.type_inv.p c.loop-digit.digit-index in
    omega arith

pub loop-digit-preserved : goal.loop-digit-preserved
loop-digit-preserved c = reading_next _ _ _ c.loop-digit.invariant c.loop-digit-test.true

pub returns : goal.returns
returns c = reading_all _ _ _ c.loop-digit.invariant (omega arith)
