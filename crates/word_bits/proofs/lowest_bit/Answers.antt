use Rattle.word_bits.proofs.Bits.{lowest_of}
use Rattle.word_bits.proofs.lowest_bit.Goals as goal

pub returns : goal.returns
returns c = lowest_of c.args.word
