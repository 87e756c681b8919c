use Rattle.index_search.proofs.Passed.{found_near}
use Rattle.index_hash.proofs.Built.{built_cells}
use Rattle.index_hash.proofs.Empty.{found_below}
use mathlib.Core.Path.{sym, ◌∙◌}
use native.Mathlib.Omega.{arith}
use Rattle.index_rebuild.proofs.rebuild.Rebuild.insert_near.Goals as goal

pub name_entry-requires : goal.name_entry-requires
name_entry-requires c =
    let b = found_below _ _ _ (found_near _ 8 _ _ _ (omega arith) c.hash_page_id-home.ensures.0 (sym c.empty_from.ensures ∙ c.in-Some.is)) in
    let n = built_cells _ _ _ c.loop-local_index.invariant.1 in
    (omega arith, omega arith)
