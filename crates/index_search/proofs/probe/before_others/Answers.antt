use Rattle.index_search.proofs.Runs.{look_passed}
use Rattle.index_search.proofs.probe.before_others.Goals as goal

pub loop-before-preserved : goal.loop-before-preserved
loop-before-preserved c =
    let i = c.loop-before.invariant in
    let e = c.in-Some.ensures.cases in
    look_passed _ _ _ _ i.1.0 i.0 e.0 e.1 e.2 _ _ i.1.1 (c.name_others.ensures c.if-not-name_others.false)
