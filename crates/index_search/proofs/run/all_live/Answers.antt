-- The fold keeps whether all cells so far are live.
use mathlib.Core.Path.{sym, ◌∙◌}
use mathlib.Core.Bool.{true, not, ◌&&◌}
use native.Mathlib.Omega.{arith}
use lib.Dec.{eqb, leb}
use Rattle.std.proofs.Common.{rules, tests}
use Rattle.std.proofs.lemmas.Iterator.{YieldsList-from_slice}
use Rattle.std.proofs.lemmas.Iterator.Consumers.{fold_from_yields_List}
use Rattle.index_search.proofs.Runs.{fold_all, live_seen}
use Rattle.index_search.proofs.run.all_live.Goals as goal

pub returns : goal.returns
returns c live =
    let a = c.args in
    let told = fold_from_yields_List _ (λ b x. b && (not (eqb x 0) && leb x a.visible)) true _ c.fold.ensures.ran (YieldsList-from_slice a.cells.now c.iter.ensures.rest) (λ a x b q k. search (rules, tests)) in
    λ k x y. fold_all _ _ (live_seen a.visible) a.cells.now true (sym told ∙ live) k (omega arith)
