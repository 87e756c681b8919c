-- Where a record's entry goes, and which frames are out of order (document 01, "record_frame"). Assumes nothing.
use Rattle.std.specs.Prelude.{Bool, not, ◌&&◌, ◌||◌, cond, List, ℕ, ◌+◌, ◌-◌, eqb, leb, ltb, get_or, Option, Some, None}
use Rattle.wal_types.specs.declared.Header.{Header}
use Rattle.wal_types.specs.Settings.{entries_for}
use Rattle.wal_types.specs.Memory.{frame_index_len_cell, frame_index_overflowed_cell, frame_index_blocks_cell}
use Rattle.index_end.specs.declared.cells.IndexCells.{IndexCells}
use Rattle.index_end.specs.Cells.{cells_of, cells_with}

-- Frame 1 while the published frame is 0 resets the index.
abbrev pub resets : ℕ → Header → Bool
resets frame h = eqb frame 1 && eqb h.max_frame 0

-- the index's cells that the entry finds: after a reset, length and flag 0
unfoldable pub started : ℕ → Header → IndexCells
started frame h =
    cond (resets frame h) (cells_with frame_index_overflowed_cell 0 (cells_with frame_index_len_cell 0 (cells_of h))) (cells_of h)

-- the blocks in use are full
abbrev pub blocks_full : IndexCells → Bool
blocks_full s = leb (entries_for s.frame_index_blocks) s.frame_index_len

-- Dropped: length has reached capacity, or the blocks in use are full and may not grow.
abbrev pub drops : ℕ → ℕ → Bool → IndexCells → Bool
drops capacity b grow s =
    leb capacity s.frame_index_len || (blocks_full s && (leb b s.frame_index_blocks || not grow))

-- where the entry goes: nowhere, or at the end of the index, after a growth where the blocks are full
unfoldable pub placed : ℕ → ℕ → Bool → IndexCells → Option IndexCells
placed capacity b grow s =
    cond (drops capacity b grow s) None
    (Some (cond (blocks_full s) (cells_with frame_index_blocks_cell (s.frame_index_blocks + 1) s) s))

-- a frame not above the last one of n
abbrev pub out_of_order : ℕ → ℕ → List ℕ → Bool
out_of_order frame n frames = ltb 0 n && leb frame (get_or frames (n - 1) 0)
