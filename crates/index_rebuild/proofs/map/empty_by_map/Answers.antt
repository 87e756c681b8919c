use mathlib.Core.Path.{sym, subst}
use Rattle.index_rebuild.proofs.Dropped.{words_told, cell_dropped, found_way}
use Rattle.index_rebuild.specs.InnerMap.{Tells}
use native.Mathlib.Omega.{arith}
use Rattle.index_rebuild.proofs.map.empty_by_map.Goals as goal

pub returns-then-hash-cell-eq0 : goal.returns-then-hash-cell-eq0
returns-then-hash-cell-eq0 c =
    let map = c.loop.invariant.1.1 in
    (found_way _ _ _ _ _ c.hash_page_id-home.ensures.0 map.1 c.in-Some.ensures.0 c.in-Some.ensures.1 c.if-hash-cell-eq0.true, map)

pub loop-preserved : goal.loop-preserved
loop-preserved c =
    let row = c.loop.invariant.1.0 in
    let map = c.loop.invariant.1.1 in
    let left = c.drop_cell.ensures in
    ((omega arith, omega arith), (omega arith, (words_told _ _ _ _ _ row c.in-Some.ensures.0 left.0 left.1 map.0, subst (Tells _) (sym left.0) (cell_dropped _ _ _ c.if-hash-cell-eq0.false map.1))))
