use Rattle.index_search.proofs.Passed.{next_turn, probe_start, probe_here, named_used, looked_start, count_empty, count_hidden, count_live}
use Rattle.index_hash.proofs.Turns.{probe_at_empty, probe_at_hidden, probe_at_other, probe_at_page}
use native.Mathlib.Omega.{arith}
use Rattle.index_search.proofs.probe.probe_near.Goals as goal
use Rattle.index_search.proofs.probe.probe_near.Goals.{then-pages-local_plus_one-2, else-pages-local_plus_one-2}

pub loop-turn-init : goal.loop-turn-init
loop-turn-init c = (omega arith, (probe_start _ _ _ _ _ (omega arith) c.requires.0, looked_start _ _ _ _ (omega arith) c.requires.0))

pub returns-then-local_plus_one-eq0 : goal.returns-then-local_plus_one-eq0
returns-then-local_plus_one-eq0 c =
    let i = c.loop-turn.invariant in
    rw c.ended.ensures (
      probe_at_empty _ _ _ _ _ _ _ _ (probe_here _ _ _ _ _ _ _ _ (omega arith) i.1.0) (omega arith) c.if-local_plus_one-eq0.true,
      count_empty _ _ _ _ _ _ (omega arith) (omega arith) i.1.1 c.if-local_plus_one-eq0.true,
    )

pub returns-then-pages-local_plus_one : goal.returns-then-pages-local_plus_one
returns-then-pages-local_plus_one c =
    let i = c.loop-turn.invariant in
    rw c.ended-then-pages-local_plus_one.ensures (
      probe_at_hidden _ _ _ _ _ _ _ _ (probe_here _ _ _ _ _ _ _ _ (omega arith) i.1.0) c.if-local_plus_one-eq0.false (omega arith) (omega arith),
      count_hidden _ _ _ _ _ _ (omega arith) (omega arith) i.1.1 c.if-local_plus_one-eq0.false (omega arith),
    )

pub loop-turn-preserved : goal.loop-turn-preserved
loop-turn-preserved c =
    let i = c.loop-turn.invariant in
    let used = c.if-local_plus_one-eq0.false in (
      omega arith,
      rw (← next_turn _ _) (
        elim c.if-pages-local_plus_one-2.branch [
          | then-pages-local_plus_one-2 w ↦ rw (w.latest-is, named_used _ used) (probe_at_page _ _ _ _ _ _ _ _ (probe_here _ _ _ _ _ _ _ _ (omega arith) i.1.0) used _ (omega arith) (omega arith) w.if-pages-local_plus_one-2.true)
          | else-pages-local_plus_one-2 w ↦ rw w.latest-is (probe_at_other _ _ _ _ _ _ _ _ (probe_here _ _ _ _ _ _ _ _ (omega arith) i.1.0) used _ (omega arith) (omega arith) w.if-pages-local_plus_one-2.false)
        ],
        count_live _ _ _ _ _ _ (omega arith) (omega arith) i.1.1 used (omega arith) _ (omega arith),
      ),
    )
