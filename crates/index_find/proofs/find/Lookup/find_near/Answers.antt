use mathlib.Core.Path.{◌≡◌, sym, ◌∙◌}
use Rattle.index_find.proofs.Blockwise.{block_most, found_in_block, looked_in_block, block_found, block_passed, blocks_done, cells_found, cells_passed, cells_done, cells_small}
use Prim.Native.Nat.{◌+◌, ◌-◌}
use native.Mathlib.Omega.{arith}
use Rattle.index_find.proofs.find.Lookup.find_near.Goals as goal

pub overflow_cast-cells : goal.overflow_cast-cells
overflow_cast-cells c =
    let l = c.args.self.now in
    omega (arith, c.in-Some.ensures.1, block_most (c.loop-k.k - 1) l.page_id l.visible_slots l.hash.now)

pub overflow_add-cells : goal.overflow_add-cells
overflow_add-cells c =
    let l = c.args.self.now in
    let fit = l.blocks_fit in
    omega (arith, cells_small l.visible_slots l.pages.now l.frames.now l.hash.now l.page_id l.min_frame l.max_frame _ _ _ _ _ c.loop-k.invariant.1.1 (omega (arith, fit.blocks_most)) c.in-Some.ensures.1)

pub frame_found-found-requires : goal.frame_found-found-requires
frame_found-found-requires c = (omega arith, found_in_block _ _ _ _ _ _ c.in-Some.ensures.0)

pub returns : goal.returns
returns c =
    let i = c.loop-k.invariant in
    (blocks_done _ _ _ _ _ _ _ _ c.loop-k-test.false ∙ i.1.0, cells_done _ _ _ _ _ _ _ _ _ _ c.loop-k-test.false i.1.1)

pub returns-then-is_some : goal.returns-then-is_some
returns-then-is_some c =
    let l = c.args.self.now in
    let i = c.loop-k.invariant in
    let taken = c.loop-k-test.true in
    let probed = c.in-Some.ensures in
    let here = looked_in_block _ _ l.frames.now _ _ l.min_frame l.max_frame _ _ _ c.frame_found-found.ensures probed.0 in
    let some = sym c.is_some.ensures ∙ c.if-is_some.true in
    (block_found _ _ _ _ _ _ _ _ _ taken here some ∙ i.1.0, cells_found _ _ _ _ _ _ _ _ _ _ _ taken i.1.1 probed.1 _ here some)

pub loop-k-preserved : goal.loop-k-preserved
loop-k-preserved c =
    let l = c.args.self.now in
    let i = c.loop-k.invariant in
    let taken = c.loop-k-test.true in
    let probed = c.in-Some.ensures in
    let here = looked_in_block _ _ l.frames.now _ _ l.min_frame l.max_frame _ _ _ c.frame_found-found.ensures probed.0 in
    let none = sym c.is_some.ensures ∙ c.if-is_some.false in
    (omega arith, (block_passed _ _ _ _ _ _ _ _ _ taken here none ∙ i.1.0, cells_passed _ _ _ _ _ _ _ _ _ _ _ taken i.1.1 probed.1 _ here none))

pub returns-in_default : goal.returns-in_default
returns-in_default c =
    let here : c.loop-k.k - 1 + 1 ≡ c.loop-k.k = omega arith in
    rw (← here) at c.loop-k.invariant
