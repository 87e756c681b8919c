use Rattle.index_find.proofs.Blocks.{mid_visible}
use native.Mathlib.Omega.{arith}
use Rattle.index_find.proofs.find.Lookup.visible_pages.Goals as goal

pub returns : goal.returns
returns c = mid_visible _ _ _ _ (omega arith)
