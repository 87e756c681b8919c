-- The used cells from the home on, and then those from the first cell on, lead to the first empty one.
use Rattle.index_search.proofs.Passed.{found_on, found_round, found_none, of_page, live_used, dead_empty}
use native.Mathlib.Omega.{arith}
use Rattle.index_search.proofs.empty.far_empty_cell.Goals as goal

pub returns-then-cell-lt-BLOCK_CELLS : goal.returns-then-cell-lt-BLOCK_CELLS
returns-then-cell-lt-BLOCK_CELLS c =
    let h = c.args.hash.now in
    let home = c.hash_page_id-home.result in
    let r = c.live_until-cell.ensures in
    let d = r.1.1 c.if-cell-lt-BLOCK_CELLS.true in
    of_page h home _ _ c.hash_page_id-home.ensures.0 (found_on h home (omega arith) _ (omega arith) (omega arith) (live_used h 65535 home _ r.1.0) (dead_empty h _ d.0 d.1))

pub returns-then-first-home : goal.returns-then-first-home
returns-then-first-home c =
    let h = c.args.hash.now in
    let home = c.hash_page_id-home.result in
    let r = c.live_until-cell.ensures in
    let s = c.live_until-first.ensures in
    let d = s.1.1 c.if-first-home.true in
    of_page h home _ _ c.hash_page_id-home.ensures.0 (found_round h home (omega arith) _ (omega arith) (λ k x y. live_used h 65535 home _ r.1.0 k x (omega arith)) (live_used h 65535 0 _ s.1.0) (dead_empty h _ d.0 d.1))

pub returns : goal.returns
returns c =
    let h = c.args.hash.now in
    let home = c.hash_page_id-home.result in
    let r = c.live_until-cell.ensures in
    let s = c.live_until-first.ensures in
    of_page h home _ _ c.hash_page_id-home.ensures.0 (found_none h home (omega arith) (λ k x y. live_used h 65535 home _ r.1.0 k x (omega arith)) (λ k x y. live_used h 65535 0 _ s.1.0 k x (omega arith)))
