use Rattle.index_find.proofs.Blockwise.{probe_visible}
use native.Mathlib.Omega.{arith}
use Rattle.index_find.proofs.find.Lookup.probe_near_in_block.Goals as goal

pub returns : goal.returns
returns c =
    let l = c.args.self.now in
    let fit = l.blocks_fit in
    let v = probe_visible c.args.k l.visible_slots l.page_id l.pages.now l.hash.now _ _ (omega (arith, fit.pages_fit, c.requires.0)) c.visible_pages.ensures c.block_hash-cells.ensures in
    rw (v.0, v.1) at c.probe_near.ensures
