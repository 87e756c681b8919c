-- The words still tell.
use Rattle.index_rebuild.proofs.Dropped.{words_told}
use borrow.Author.Rules.{rules}
use Rattle.index_rebuild.proofs.map.CellMap.drop_cell.Goals as goal

pub invariant_of-self : goal.invariant_of-self
invariant_of-self c = record { words_tell = words_told _ _ _ _ c.args.cell (search rules) c.requires c.drop_cell.ensures.0 c.drop_cell.ensures.1 c.args.self.now.words_tell }
