-- The header's cells that a record works on, apart from the rest of it. Assumes nothing.
use Rattle.std.specs.Prelude.{ℕ}
use Rattle.wal_types.specs.declared.Header.{Header}
use Rattle.wal_types.specs.Memory.{HeaderCell, if_at, header_with, frame_index_blocks_cell, frame_index_len_cell, frame_index_overflowed_cell}
use Rattle.index_end.specs.declared.cells.IndexCells.{IndexCells}

-- these cells of a header
abbrev pub cells_of : Header → IndexCells
cells_of h =
    record {
      frame_index_blocks = h.frame_index_blocks;
      frame_index_len = h.frame_index_len;
      frame_index_overflowed = h.frame_index_overflowed;
      max_frame = h.max_frame;
    }

-- with v in cell c
abbrev pub cells_with : HeaderCell → ℕ → IndexCells → IndexCells
cells_with c v cells =
    record {
      frame_index_blocks = if_at c 0 v cells.frame_index_blocks;
      frame_index_len = if_at c 1 v cells.frame_index_len;
      frame_index_overflowed = if_at c 2 v cells.frame_index_overflowed;
      max_frame = if_at c 3 v cells.max_frame;
    }

-- The header with these cells in it. The published frame is only read, and stays like all other cells.
abbrev pub with_cells : IndexCells → Header → Header
with_cells cells h =
    header_with frame_index_blocks_cell cells.frame_index_blocks
    (header_with frame_index_len_cell cells.frame_index_len (header_with frame_index_overflowed_cell cells.frame_index_overflowed h))
