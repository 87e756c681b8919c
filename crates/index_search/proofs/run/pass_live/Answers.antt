use Rattle.index_search.proofs.Runs.{look_live}
use native.Mathlib.Omega.{arith}
use Rattle.index_search.proofs.run.pass_live.Goals as goal

pub loop-n-preserved : goal.loop-n-preserved
loop-n-preserved c = look_live _ _ _ _ _ c.as_chunks.ensures.front (omega arith) c.loop-n.invariant (c.all_live.ensures c.if-not-all_live.false)
