use mathlib.Core.Path.{◌≡◌}
use Prim.Native.Nat.{◌+◌, ◌*◌}
use native.Mathlib.Omega.{arith}
use Rattle.index_scan.proofs.Distances.{look_passed, none_yet}
use Rattle.index_scan.proofs.search.Search.nearest.Goals as goal
use Rattle.index_scan.proofs.search.Search.nearest.Goals.{then-not-are_others, else-not-are_others}

pub loop-look-init : goal.loop-look-init
loop-look-init c = none_yet _ _ _ _

pub loop-look-preserved : goal.loop-look-preserved
loop-look-preserved c =
    let i = c.loop-look.invariant in
    let next : (c.loop-look.look + 1) * 8 ≡ c.loop-look.look * 8 + 8 = omega arith in
    elim c.if-not-are_others.branch [
      | then-not-are_others w ↦ rw (w.found-is, next) (w.nearest_in-found.ensures i)
      | else-not-are_others w ↦ rw (w.found-is, next) (look_passed _ _ _ _ _ _ i (c.are_others.ensures w.if-not-are_others.false))
    ]
