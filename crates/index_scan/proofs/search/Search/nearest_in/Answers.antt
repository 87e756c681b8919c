use Rattle.index_scan.proofs.Distances.{turn_of_page, turn_of_other}
use Rattle.index_scan.proofs.search.Search.nearest_in.Goals as goal
use Rattle.index_scan.proofs.search.Search.nearest_in.Goals.{then-self-n, else-self-n}

pub loop-n-preserved : goal.loop-n-preserved
loop-n-preserved c so_far =
    let i = c.loop-n.invariant so_far in
    elim c.if-self-n.branch [
      | then-self-n w ↦ rw w.found-is (turn_of_page _ _ _ _ _ _ i _ w.if-self-n.true w.nearer.ensures)
      | else-self-n w ↦ rw w.found-is (turn_of_other _ _ _ _ _ _ i w.if-self-n.false)
    ]
