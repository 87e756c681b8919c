-- record_frame (document 01, "record_frame"). Assumes nothing.
use Rattle.std.specs.Prelude.{Result, Ok, Err, Bool, is_none, not, ◌&&◌, cond, List, [], ◌∷◌, ◌++◌, ℕ, ◌+◌, eqb}
use Rattle.wal_types.specs.Memory.{Memory, to_header, frame_index_len_cell, frame_index_overflowed_cell, frame_index_blocks_cell, to_page, to_frame_cell}
use Rattle.wal_types.specs.Store.{Piece, one, when, ◌then◌}
use Rattle.wal_types.specs.Refusal.{Test, ◌if◌, number}
use Rattle.wal_types.specs.declared.refusal.Refusal.{Refusal}
use Rattle.wal_types.specs.declared.refusal.Refusal.TheVariants.{FrameOrder, HashFull}
use Rattle.wal_types.specs.Call.{Call, Answer, refused, stored, dropped, does, unless}
use Rattle.index_hash.specs.Block.{empty_cell}
use Rattle.index_record.specs.declared.record.Recorded.{Recorded}
use Rattle.index_record.specs.declared.record.Recorded.TheVariants.{Stored, Dropped}
use Rattle.index_find.specs.Index.{index_tests, block_of, place_of, block_cells_of, clear_block, insert_entry}
use Rattle.index_end.specs.Place.{resets, started, blocks_full, drops, out_of_order}

-- no empty cell for entry n's page; the first entry of a block has its hash cleared
abbrev pub no_cell : ℕ → ℕ → List ℕ → Bool
no_cell n page hash = not (eqb (place_of n) 0) && is_none (empty_cell (block_cells_of (block_of n) hash) page)

abbrev pub record_tests : ℕ → ℕ → ℕ → ℕ → Bool → Memory → List Test
record_tests capacity b page frame grow m =
    index_tests capacity b m
    ++ ((FrameOrder if (not (drops capacity b grow (started frame m.header)) && out_of_order frame (started frame m.header).frame_index_len m.frames))
    ∷ (HashFull if (not (drops capacity b grow (started frame m.header)) && no_cell (started frame m.header).frame_index_len page m.hash))
    ∷ [])

-- The reset: length and flag 0.
abbrev pub reset_index : Piece
reset_index = one (to_header frame_index_len_cell 0) then one (to_header frame_index_overflowed_cell 0)

-- A block more is in use.
abbrev pub grow_index : Piece
grow_index m = one (to_header frame_index_blocks_cell (m.header.frame_index_blocks + 1)) m

-- Entry n is written, and the length raised past it. The first of a block clears that block's hash.
abbrev pub enter : ℕ → ℕ → ℕ → Piece
enter n page frame =
    when (eqb (place_of n) 0) (clear_block (block_of n))
    then one (to_page n page)
    then one (to_frame_cell n frame)
    then insert_entry n page
    then one (to_header frame_index_len_cell (n + 1))

-- Dropped: the flag becomes 1.
abbrev pub drop_stores : ℕ → Piece
drop_stores frame m = (when (resets frame m.header) reset_index then one (to_header frame_index_overflowed_cell 1)) m

-- Stored: the blocks grow where they are full, and the entry goes to the end.
abbrev pub enter_stores : ℕ → ℕ → Piece
enter_stores page frame m =
    (when (resets frame m.header) reset_index
    then when (blocks_full (started frame m.header)) grow_index
    then enter (started frame m.header).frame_index_len page frame)
    m

abbrev pub records : ℕ → ℕ → ℕ → ℕ → Bool → Call
records capacity b page frame grow m =
    cond (drops capacity b grow (started frame m.header))
    (does dropped (drop_stores frame) m)
    (does stored (enter_stores page frame) m)

-- grow is the file's answer to a growth by one block
unfoldable pub record_frame : ℕ → ℕ → ℕ → ℕ → Bool → Call
record_frame capacity b page frame grow =
    unless (λ m p. record_tests capacity b page frame grow m) (records capacity b page frame grow)

-- What each case of the result tells.
abbrev pub record_answer : Result Recorded Refusal → Answer
record_answer (Ok Stored) = stored
record_answer (Ok Dropped) = dropped
record_answer (Err r) = refused (number r)
