-- On to the end of the two words, or round it.
use Rattle.index_rebuild.proofs.Ways.{upto_way, way_turned}
use native.Mathlib.Omega.{arith}
use Rattle.index_rebuild.proofs.map.next_word.Goals as goal

pub returns-then-from-lt64 : goal.returns-then-from-lt64
returns-then-from-lt64 c = upto_way _ _ _ _ c.next_in_two.ensures

pub returns : goal.returns
returns c = way_turned c.args.words.now _ _ (omega arith) (omega arith) c.in_ok-word.ensures
