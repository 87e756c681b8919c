-- The cells passed are the rest of the home's word, the words that are 0, and the lowest cells of the next word.
use Rattle.index_rebuild.proofs.Ways.{way_next}
use native.Mathlib.Omega.{arith}
use Rattle.index_rebuild.proofs.map.next_cell.Goals as goal

pub returns : goal.returns
returns c =
    let a = c.args in
    let way = c.in_ok-word.ensures in
    way_next a.cells.now a.words.now c.requires.1 a.home _ _ _ _ c.requires.0 way.0 (λ k x y. c.in_default.ensures k (omega arith) y) (omega arith) (omega arith) c.next_in_word-2.ensures way.1
