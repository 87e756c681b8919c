-- What is left when an entry is written. Assumes nothing.
use Rattle.std.specs.Prelude.{◌≡◌, List, ℕ, ◌+◌, set}
use Rattle.wal_types.specs.declared.Header.{Header}
use Rattle.wal_types.specs.Memory.{frame_index_len_cell}
use Rattle.index_find.specs.Index.{block_of, place_of, block_cells_of, with_block}
use Rattle.index_end.specs.declared.cells.IndexCells.{IndexCells}
use Rattle.index_end.specs.Cells.{cells_with, with_cells}

-- the entry stands at the end of the index of these cells, its place in the cell of its block's hash, and the header counts it
pub record Entered (cells : IndexCells) (cell page frame : ℕ) (h : Header) (ps fs hs : List ℕ) (h' : Header) (ps' fs' hs' : List ℕ) : Type 0 where
  pub header_is : h' ≡ with_cells (cells_with frame_index_len_cell (cells.frame_index_len + 1) cells) h
  pub pages_are : ps' ≡ set ps cells.frame_index_len page
  pub frames_are : fs' ≡ set fs cells.frame_index_len frame
  pub hash_is : hs' ≡ with_block (block_of cells.frame_index_len) (set (block_cells_of (block_of cells.frame_index_len) hs) cell (place_of cells.frame_index_len + 1)) hs
