-- The loop's invariant: the cells passed are live.
use Rattle.index_search.specs.InnerRun.{All, Live}
use Rattle.index_search.proofs.run.near_live_until.Given as goal

abbrev pub invariant-loop-cell : goal.invariant-loop-cell
invariant-loop-cell l = All (Live l.hash l.visible) l.from l.cell
