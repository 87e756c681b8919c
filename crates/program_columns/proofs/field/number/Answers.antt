use Rattle.std.proofs.Common.{arith}
use Rattle.program_columns.proofs.Fields.{digit_more, eleven_digits, digit_taken}
use Rattle.program_columns.proofs.field.number.Goals as goal

pub overflow_mul-n : goal.overflow_mul-n
overflow_mul-n c = omega (arith, eleven_digits _ _ (omega arith) c.loop-b.invariant.0)

pub loop-b-preserved : goal.loop-b-preserved
loop-b-preserved c = (digit_more _ _ _ c.loop-b.invariant.0 c.in_ok-n.ensures.bound, digit_taken _ _ _ _ c.loop-b.invariant.1 _ c.loop-b-test.true c.in_ok-n.ensures.value)
