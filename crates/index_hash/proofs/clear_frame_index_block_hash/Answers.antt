use Rattle.index_hash.specs.Block.{cleared}
use Prim.Native.Nat.{ℕ}
use lib.ListN.{replicate}
use mathlib.Core.Path.{ap, ◌∙◌}
use Rattle.index_hash.proofs.clear_frame_index_block_hash.Goals as goal

pub returns : goal.returns
unfolding cleared
returns c = c.fill.ensures.after (λ y e. e) ∙ ap (λ (n : ℕ). replicate n 0) c.requires
