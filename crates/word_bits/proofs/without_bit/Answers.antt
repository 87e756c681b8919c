use Rattle.std.proofs.Common.{ap, ◌∙◌, ℕ, ◌-◌, ◌%◌, arith}
use lib.Bits.{bit_and}
use Rattle.word_bits.proofs.Bits.{shifted, and_not}
use Rattle.word_bits.proofs.without_bit.Goals as goal

pub returns : goal.returns
returns c = ap (λ (m : ℕ). bit_and c.args.word (18446744073709551615 - m)) (shifted (c.args.i % 64) (omega arith)) ∙ and_not (c.args.i % 64) 64 c.args.word (omega arith) (omega arith)
