-- What a record and a rollback store to: the index's lists and its three cells of the header. Said of their lists of stores, for whatever holds of a store to one of these. Assumes nothing.
use mathlib.Core.Bool.{Bool, not}
use Prim.Native.Nat.{ℕ, zero, suc, ◌+◌, ◌-◌, ◌*◌}
use lib.Dec.{eqb, ltb}
use lib.ListN.{get_or}
use Rattle.wal_types.specs.Memory.{IndexPart, frame_index_blocks_cell, frame_index_len_cell, frame_index_overflowed_cell, Store, to_header, to_index, to_page, to_frame_cell}
use Rattle.wal_types.specs.Store.{one, when, ◌then◌}
use Rattle.wal_types.specs.Call.{stored, dropped, kept, does}
use Rattle.wal_types.proofs.Every.{Every, EveryOf, EveryOfCall, every_then, every_when, every_cond_of, every_unless}
use Rattle.std.specs.Prelude.{Option, Some, None}
use Rattle.index_hash.specs.Block.{empty_cell}
use Rattle.index_find.specs.Index.{index_tests, block_of, place_of, block_cells_of, zero_stores, clear_block, name_stores, insert_entry, insert_entries}
use Rattle.index_end.specs.Place.{started, blocks_full, drops, resets}
use Rattle.index_record.specs.Record.{reset_index, grow_index, enter, drop_stores, enter_stores, record_tests, records, record_frame}
use Rattle.index_record.specs.Rollback.{kept_len, rebuild_last, rollback_stores, rollback_frames}

module _ (P : Store → Type 0) (blocks : (v : ℕ) → P (to_header frame_index_blocks_cell v)) (len : (v : ℕ) → P (to_header frame_index_len_cell v)) (overflowed : (v : ℕ) → P (to_header frame_index_overflowed_cell v))
    (part : (k : IndexPart) (i v : ℕ) → P (to_index k i v)) where
  zeros : (n cell : ℕ) → Every P (zero_stores n cell)
  unfolding zero_stores
  zeros zero cell = tt
  zeros (suc n) cell = (part _ _ _, zeros n (cell + 1))

  clears : (k : ℕ) → EveryOf P (clear_block k)
  clears k m = zeros 8192 (8192 * k)

  names : (k place : ℕ) (c : Option ℕ) → Every P (name_stores k place c)
  names k place (Some cell) = (part _ _ _, tt)
  names k place None = tt

  inserts : (n page : ℕ) → EveryOf P (insert_entry n page)
  inserts n page m = names (block_of n) (place_of n) (empty_cell (block_cells_of (block_of n) m.hash) page)

  all_inserted : (left n : ℕ) → EveryOf P (insert_entries left n)
  unfolding insert_entries
  all_inserted zero n m = tt
  all_inserted (suc left) n m = every_then P (insert_entry n (get_or m.pages n 0)) (insert_entries left (n + 1)) (inserts n (get_or m.pages n 0)) (all_inserted left (n + 1)) m

  -- record_frame
  starts : (b : Bool) → EveryOf P (when b reset_index)
  starts b = every_when P b reset_index (λ m. (len 0, (overflowed 0, tt)))

  enters : (n page frame : ℕ) → EveryOf P (enter n page frame)
  enters n page frame =
      let clear = when (eqb (place_of n) 0) (clear_block (block_of n)) in
      let pages = one (to_page n page) in
      let frames = one (to_frame_cell n frame) in
      every_then P (clear then pages then frames then insert_entry n page) (one (to_header frame_index_len_cell (n + 1)))
      (every_then P (clear then pages then frames) (insert_entry n page)
      (every_then P (clear then pages) frames
      (every_then P clear pages (every_when P (eqb (place_of n) 0) (clear_block (block_of n)) (clears (block_of n))) (λ m. (part _ _ _, tt)))
      (λ m. (part _ _ _, tt)))
      (inserts n page))
      (λ m. (len (n + 1), tt))

  drops_stores : (frame : ℕ) → EveryOf P (drop_stores frame)
  drops_stores frame m = every_then P (when (resets frame m.header) reset_index) (one (to_header frame_index_overflowed_cell 1)) (starts (resets frame m.header)) (λ m. (overflowed 1, tt)) m

  enters_stores : (page frame : ℕ) → EveryOf P (enter_stores page frame)
  enters_stores page frame m =
      let s = started frame m.header in
      every_then P (when (resets frame m.header) reset_index then when (blocks_full s) grow_index) (enter s.frame_index_len page frame)
      (every_then P (when (resets frame m.header) reset_index) (when (blocks_full s) grow_index) (starts (resets frame m.header)) (every_when P (blocks_full s) grow_index (λ m. (blocks _, tt))))
      (enters s.frame_index_len page frame)
      m

  pub record_stores : (capacity b page frame : ℕ) (grow : Bool) → EveryOfCall P (record_frame capacity b page frame grow)
  unfolding record_frame
  record_stores capacity b page frame grow =
      every_unless P (λ m p. record_tests capacity b page frame grow m) (records capacity b page frame grow)
      (λ m p. every_cond_of P (drops capacity b grow (started frame m.header)) (does dropped (drop_stores frame) m) (does stored (enter_stores page frame) m) p (drops_stores frame m) (enters_stores page frame m))

  -- rollback_frames
  rebuilds : (n : ℕ) → EveryOf P (rebuild_last n)
  rebuilds n =
      every_when P (not (eqb (place_of n) 0)) (clear_block (block_of n) then insert_entries (place_of n) (n - place_of n))
      (every_then P (clear_block (block_of n)) (insert_entries (place_of n) (n - place_of n)) (clears (block_of n)) (all_inserted (place_of n) (n - place_of n)))

  rolls : (n : ℕ) → EveryOf P (rollback_stores n)
  rolls n m =
      every_when P (ltb n m.header.frame_index_len) (one (to_header frame_index_len_cell n) then rebuild_last n)
      (every_then P (one (to_header frame_index_len_cell n)) (rebuild_last n) (λ m. (len n, tt)) (rebuilds n))
      m

  pub rollback_stores_to : (capacity b bound : ℕ) → EveryOfCall P (rollback_frames capacity b bound)
  unfolding rollback_frames
  rollback_stores_to capacity b bound =
      every_unless P (λ m p. index_tests capacity b m) (λ m. does (kept (kept_len bound m)) (rollback_stores (kept_len bound m)) m) (λ m p. rolls (kept_len bound m) m)
