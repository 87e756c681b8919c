use Rattle.index_find.proofs.Blocks.{put_block, mid_cells}
use Rattle.index_find.proofs.index.name_in_block.Goals as goal

pub returns : goal.returns
returns c = rw (c.name_entry.ensures, mid_cells) (put_block _ _ _)
