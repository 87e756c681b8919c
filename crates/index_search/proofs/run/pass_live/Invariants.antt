-- The loop's invariant: the cells passed are live.
use Prim.Native.Nat.{◌*◌}
use Rattle.index_search.specs.InnerRun.{All, Live}
use Rattle.index_search.proofs.run.pass_live.Given as goal

abbrev pub invariant-loop-n : goal.invariant-loop-n
invariant-loop-n l = All (Live l.cells l.visible) 0 (16 * l.n)
