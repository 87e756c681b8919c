-- The fold keeps whether all cells so far name other pages' entries. It names none past the last, since all are live.
use mathlib.Core.Path.{sym, ◌∙◌}
use mathlib.Core.Bool.{true, not, ◌&&◌}
use Prim.Native.Nat.{◌-◌}
use native.Mathlib.Omega.{arith}
use lib.Dec.{eqb}
use lib.ListN.{get_or}
use borrow.Author.Tests.{eqb-false, not-true}
use Rattle.std.proofs.Common.{rules, tests}
use Rattle.std.proofs.lemmas.Grind.{get_or_default_zero}
use Rattle.std.proofs.lemmas.Iterator.{YieldsList-from_slice}
use Rattle.std.proofs.lemmas.Iterator.Consumers.{fold_from_yields_List}
use Rattle.index_search.proofs.Runs.{fold_all, callable_in_fold}
use Rattle.index_search.proofs.probe.name_others.Goals as goal

pub fold-requires-clause-callable : goal.fold-requires-clause-callable
fold-requires-clause-callable c = callable_in_fold (YieldsList-from_slice c.args.cells.now c.iter.ensures.rest) (λ n x q r. search rules) (λ n x k b e.
    let l = rw (sym (e ∙ get_or_default_zero c.args.cells.now k x.now b)) at (c.requires k (omega arith) (omega arith)) in
    search (rules, l))

pub returns : goal.returns
returns c others =
    let a = c.args in
    let told = fold_from_yields_List _ (λ b x. b && not (eqb (get_or a.pages.now (x - 1) 0) a.page_id)) true _ c.fold.ensures.ran (YieldsList-from_slice a.cells.now c.iter.ensures.rest) (λ a x b q k. search (rules, tests)) in
    λ k x y. fold_all _ _ (λ x t. eqb-false _ _ (not-true _ t)) a.cells.now true (sym told ∙ others) k (omega arith)
