use mathlib.Core.Path.{sym, ◌∙◌}
use Prim.Native.Nat.{◌-◌}
use Rattle.index_find.proofs.Search.{search_ends, search_up, search_down, search_starts}
use lib.ListN.{length}
use native.Mathlib.Omega.{arith}
use Rattle.index_find.proofs.find.visible_frame_index_slots.Goals as goal

pub loop-low-init : goal.loop-low-init
loop-low-init c = (omega arith, omega arith, length c.args.frames.now, omega arith, search_starts _ _ _)

pub loop-low-preserved-then-frames-mid : goal.loop-low-preserved-then-frames-mid
loop-low-preserved-then-frames-mid c =
    let i = c.loop-low.invariant in
    (omega arith, omega arith, i.2 - 1, omega arith, search_up _ _ _ _ i.2 _ _ (omega arith) c.loop-low-test.true c.if-frames-mid.true i.4)

pub loop-low-preserved : goal.loop-low-preserved
loop-low-preserved c =
    let i = c.loop-low.invariant in
    (omega arith, omega arith, i.2 - 1, omega arith, search_down _ _ _ _ i.2 _ _ (omega arith) c.loop-low-test.true c.if-frames-mid.false i.4)

pub returns : goal.returns
returns c =
    let i = c.loop-low.invariant in
    (sym (search_ends _ _ _ _ i.2 c.loop-low-test.false) ∙ i.4, omega arith)
