use native.Mathlib.Omega.{arith}
use Rattle.index_scan.proofs.Choices.{look_passed, rest_gives}
use Rattle.index_scan.proofs.search.Search.last_between.Goals as goal

pub loop-n-preserved : goal.loop-n-preserved
loop-n-preserved c = (omega arith, look_passed _ _ _ _ _ _ _ c.loop-n.invariant.1 c.loop-n-test.true (c.are_others.ensures c.if-not-are_others.false))

pub returns : goal.returns
returns c = rest_gives _ _ _ _ _ _ _ c.loop-n.invariant.1 _ c.last_between_in.ensures
