-- One word is stored, or two.
use Rattle.index_rebuild.proofs.Dropped.{bit_stored, word_cleared, word_left}
use native.Mathlib.Omega.{arith}
use Rattle.index_rebuild.proofs.map.drop_cell.Goals as goal

pub returns-then-left-eq0 : goal.returns-then-left-eq0
returns-then-left-eq0 c = (bit_stored _ _ _ c.without_bit-left.ensures, word_cleared _ _ _ _ _ (omega arith) c.if-left-eq0.true c.without_bit.ensures)

pub returns-else-left-eq0 : goal.returns-else-left-eq0
returns-else-left-eq0 c = (bit_stored _ _ _ c.without_bit-left.ensures, word_left _ _ _ _ (omega arith) c.if-left-eq0.false)
