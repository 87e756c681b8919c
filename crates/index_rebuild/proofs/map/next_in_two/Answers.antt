-- In the word of the place, or in the other.
use Rattle.index_rebuild.proofs.Ways.{upto_more}
use native.Mathlib.Omega.{arith}
use Rattle.index_rebuild.proofs.map.next_in_two.Goals as goal

pub returns : goal.returns
returns c = upto_more _ c.args.from 64 _ _ (omega arith) (λ k x y. c.in_default.ensures k (omega arith) (omega arith)) c.next_in_word-2.ensures
