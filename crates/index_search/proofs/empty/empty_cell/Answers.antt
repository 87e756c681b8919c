-- A near cell that is empty is the first one; else the whole search.
use Rattle.index_search.proofs.Passed.{found_on, of_page, live_used, dead_empty}
use native.Mathlib.Omega.{arith}
use Rattle.index_search.proofs.empty.empty_cell.Goals as goal

pub returns-then-cell-end : goal.returns-then-cell-end
returns-then-cell-end c =
    let h = c.args.hash.now in
    let home = c.hash_page_id-home.result in
    let r = c.near_live_until-cell.ensures in
    let d = r.1.1 c.if-cell-end.true in
    of_page h home _ _ c.hash_page_id-home.ensures.0 (found_on h home (omega arith) _ (omega arith) (omega arith) (live_used h 65535 home _ r.1.0) (dead_empty h _ d.0 d.1))
