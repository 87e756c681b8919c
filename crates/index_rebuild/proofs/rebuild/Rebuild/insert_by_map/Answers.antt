use Rattle.index_rebuild.proofs.Dropped.{entry_named}
use Rattle.index_rebuild.specs.InnerMap.{Tells}
use Rattle.index_hash.proofs.Built.{built_at, built_cells}
use Rattle.index_hash.proofs.Empty.{found_below}
use mathlib.Core.Path.{sym, ◌∙◌, subst}
use native.Mathlib.Omega.{arith}
use Rattle.index_rebuild.proofs.rebuild.Rebuild.insert_by_map.Goals as goal

pub loop-local_index-preserved : goal.loop-local_index-preserved
loop-local_index-preserved c =
    let l = c.loop-local_index in
    let named = c.name_entry.ensures in
    let found = sym c.empty_cell.ensures.0 ∙ c.in-Some.is in
    let b = found_below _ _ _ found in
    (omega arith, (named ∙ built_at _ _ _ _ l.invariant.1.0 found, subst (Tells _) (sym c.drop_cell.ensures.0) (entry_named _ _ _ _ _ named (built_cells _ _ _ l.invariant.1.0) b c.empty_cell.ensures.1)))
