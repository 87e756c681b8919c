use mathlib.Core.Path.{◌≡◌}
use mathlib.Core.Bool.{true, false}
use Prim.Native.Nat.{◌-◌}
use lib.ListN.{get_or}
use native.Mathlib.Omega.{arith}
use Rattle.std.proofs.lemmas.Grind.{common_steps}
use Rattle.wal_types.specs.Settings.{within}
use Rattle.index_scan.proofs.Choices.{turn_between, turn_beyond, turn_other, turns_done}
use Rattle.index_scan.proofs.search.Search.last_between_in.Goals as goal

pub returns-then-contains : goal.returns-then-contains
returns-then-contains c =
    let a = c.args in
    let inside : within a.min_frame a.max_frame (get_or a.self.now.frames.now (c.loop-n.n - 1) 0) ≡ true = grind (arith, common_steps) in
    turn_between _ _ _ _ _ _ _ c.loop-n.invariant.1 (omega arith) c.if-self-n.true inside

pub loop-n-preserved-else-contains : goal.loop-n-preserved-else-contains
loop-n-preserved-else-contains c =
    let a = c.args in
    let out : within a.min_frame a.max_frame (get_or a.self.now.frames.now (c.loop-n.n - 1) 0) ≡ false = grind (arith, common_steps) in
    (omega arith, turn_beyond _ _ _ _ _ _ _ c.loop-n.invariant.1 (omega arith) c.if-self-n.true out)

pub loop-n-preserved : goal.loop-n-preserved
loop-n-preserved c = (omega arith, turn_other _ _ _ _ _ _ _ c.loop-n.invariant.1 (omega arith) c.if-self-n.false)

pub returns : goal.returns
returns c = turns_done _ _ _ _ _ _ _ c.loop-n.invariant.1 _ c.loop-n.invariant.0 (omega arith)
