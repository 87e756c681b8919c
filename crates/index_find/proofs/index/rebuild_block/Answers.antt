use Rattle.index_find.proofs.Blocks.{put_block}
use Rattle.index_find.proofs.index.rebuild_block.Goals as goal

pub returns : goal.returns
returns c = rw c.rebuild_frame_index_block_hash.ensures (put_block _ _ _)
