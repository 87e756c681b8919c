use Prim.Native.Nat.{◌-◌}
use lib.ListN.{length}
use mathlib.Core.Path.{◌≡◌, ◌∙◌}
use native.Mathlib.Omega.{arith}
use Rattle.index_search.proofs.Passed.{front_passed, front_last, met_nothing}
use Rattle.index_search.proofs.Runs.{last_cell, front_kept}
use Rattle.index_search.proofs.probe.latest_in_run.Goals as goal

pub loop-cell-init : goal.loop-cell-init
loop-cell-init c = let r = c.before_others-rest.ensures in ((r.0, r.1.0), front_passed _ _ _ _ _ _ r.0 r.1.1)

pub returns-then-pages-local_index : goal.returns-then-pages-local_index
returns-then-pages-local_index c =
    let i = c.loop-cell.invariant in
    let parts = c.in-Some.ensures.cases in
    let q = last_cell _ _ _ _ i.0.1 parts.0 parts.1 in
    let n : length c.loop-cell.rest.now - 1 ≡ length c.in-Some.front.now = omega (arith, parts.1) in
    rw (n, q) at (front_last c.args.run.now c.args.pages.now c.args.page_id c.args.before (length c.loop-cell.rest.now) (omega (arith, parts.1)) (rw (n, q) c.if-pages-local_index.true)) ∙ i.1

pub loop-cell-preserved : goal.loop-cell-preserved
loop-cell-preserved c =
    let i = c.loop-cell.invariant in
    let parts = c.in-Some.ensures.cases in
    let q = last_cell _ _ _ _ i.0.1 parts.0 parts.1 in
    ((omega (arith, parts.1), front_kept _ _ _ _ i.0.1 parts.0 parts.1), front_passed _ _ _ _ _ _ (omega (arith, parts.1)) (λ k x y. let e : k ≡ length c.in-Some.front.now = omega (arith, parts.1) in rw (e, q) c.if-pages-local_index.false) ∙ i.1)

pub returns : goal.returns
returns c = met_nothing _ _ _ _ _ _ c.in_default.ensures.cases ∙ c.loop-cell.invariant.1
