-- By the cell that the search finds.
use mathlib.Core.Path.{sym, ◌∙◌}
use Rattle.index_hash.proofs.Empty.{found_below, inserted_at, inserted_full}
use borrow.Author.Rules.{rules}
use Rattle.index_rebuild.proofs.rebuild.insert_frame_index_block_hash.Goals as goal

pub returns-in_err-cell : goal.returns-in_err-cell
returns-in_err-cell c = let e = c.in_err-cell.ensures in rw c.from_residual.ensures (e, sym (inserted_full _ _ _ (sym e)))

pub name_entry-requires : goal.name_entry-requires
name_entry-requires c = let b = found_below _ _ _ (sym c.in_ok-cell.ensures) in search rules

pub returns : goal.returns
returns c = let e = sym c.in_ok-cell.ensures in (sym e, c.name_entry.ensures ∙ sym (inserted_at _ _ _ _ e))
