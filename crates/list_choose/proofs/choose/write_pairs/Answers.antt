use Rattle.std.proofs.Common.{get_or, arith}
use Rattle.list_choose.proofs.Turns.{written_next, written_all}
use Rattle.list_choose.proofs.choose.write_pairs.Goals as goal

pub loop-i-preserved : goal.loop-i-preserved
loop-i-preserved c =
    let p = c.args.pages.now in
    let f = c.args.frames.now in
    let inv = c.loop-i.invariant in record {
      pages = rw c.cell_of.ensures (written_next (λ e. get_or p e 0) _ _ _ _ (omega arith) (omega arith) inv.pages);
      frames = rw c.cell_of-in-loop-i.ensures (written_next (λ e. get_or f e 0) _ _ _ _ (omega arith) (omega arith) inv.frames);
    }

pub returns : goal.returns
returns c =
    let a = c.args in
    let inv = c.loop-i.invariant in
    (written_all (λ e. get_or a.pages.now e 0) a.entries.now _ _ c.loop-i.i (omega arith) inv.pages, written_all (λ e. get_or a.frames.now e 0) a.entries.now _ _ c.loop-i.i (omega arith) inv.frames)
