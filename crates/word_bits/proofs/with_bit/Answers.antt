use Rattle.std.proofs.Common.{ap, ◌∙◌, ◌%◌, arith}
use lib.Bits.{bit_or}
use Rattle.word_bits.proofs.Bits.{shifted, or_pow}
use Rattle.word_bits.proofs.with_bit.Goals as goal

pub returns : goal.returns
returns c = ap (bit_or c.args.word) (shifted (c.args.i % 64) (omega arith)) ∙ or_pow c.args.word (c.args.i % 64)
