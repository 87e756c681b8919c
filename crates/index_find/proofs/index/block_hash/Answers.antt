use Rattle.index_find.proofs.Blocks.{chunk_cells}
use Prim.Native.Nat.{◌/◌}
use lib.ListN.{length}
use native.Mathlib.Omega.{arith}
use Rattle.index_find.proofs.index.block_hash.Goals as goal

pub returns : goal.returns
returns c = let h = c.args.hash.now in rw c.as_chunks.ensures.front (chunk_cells (length h / 8192) c.args.k h (omega arith))
