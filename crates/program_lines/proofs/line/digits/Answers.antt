-- `program_lines::line::digits`: a digit more, which 64 bits have. Assumes nothing.
use Rattle.std.proofs.Common.{◌≡◌, ◌+◌, ◌*◌, ◌<◌, ◌^◌, arith}
use Rattle.program_lines.proofs.Digits.{digit_taken}
use Rattle.program_lines.proofs.line.digits.Goals as goal

pub loop-b-preserved : goal.loop-b-preserved
loop-b-preserved c =
    let s : c.in_ok-n.n ≡ 10 * c.loop-b.n + c.in_ok-digit.digit = omega arith in
    let fits : 10 * c.loop-b.n + c.in_ok-digit.digit < 2 ^ 64 = omega arith in
    rw s (digit_taken _ _ _ _ c.loop-b.invariant _ c.loop-b-test.true c.in_ok-digit.ensures.value fits)
