-- The cells that a look passes, and then those one by one.
use Prim.Native.Nat.{◌-◌}
use Rattle.index_search.proofs.Runs.{all_join, part_live}
use native.Mathlib.Omega.{arith}
use Rattle.index_search.proofs.run.live_until.Goals as goal

pub returns : goal.returns
returns c =
    let a = c.args in
    let p = c.pass_live-passed.ensures in
    let n = c.near_live_until.ensures in
    ((omega arith, omega arith), (all_join _ _ _ _ (part_live a.hash.now a.visible a.from (a.end - a.from) c.pass_live-passed.result (omega (arith, p.0)) p.1) n.1.0, n.1.1))
