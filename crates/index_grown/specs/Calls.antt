-- What record_frame and rollback_frames leave of the entries, by their answers. Assumes nothing.
use Rattle.std.specs.Prelude.{◌≡◌, [], ◌∷◌, ◌++◌, ℕ}
use Rattle.wal_types.specs.Memory.{Memory}
use Rattle.wal_types.specs.Call.{pair, Answer, refused, stored, dropped, kept}
use Rattle.index_grown.specs.Entries.{entries, entries_found, taken_off}

-- A record on memory m leaves m'. Stored: its pair at the end of the entries that it found. Dropped: the entries that it
-- found. Refused: nothing has changed. It has no other answer.
pub data RecordLeaves (page frame : ℕ) (m m' : Memory) : Answer → Type 0 where
  left_stored : entries m' ≡ entries_found frame m ++ (pair page frame ∷ []) → RecordLeaves page frame m m' stored
  left_dropped : entries m' ≡ entries_found frame m → RecordLeaves page frame m m' dropped
  left_refused : {n : ℕ} → m' ≡ m → RecordLeaves page frame m m' (refused n)

-- A rollback leaves the entries with those above its bound taken off the end, and answers how many there are. Refused:
-- nothing has changed. It has no other answer.
pub data RollbackLeaves (bound : ℕ) (m m' : Memory) : Answer → Type 0 where
  left_kept : {n : ℕ} → entries m' ≡ taken_off bound (entries m) → n ≡ m'.header.frame_index_len → RollbackLeaves bound m m' (kept n)
  left_whole : {n : ℕ} → m' ≡ m → RollbackLeaves bound m m' (refused n)

-- what neither call touches: the published frame and the reader slots
pub record SameReaders (m m' : Memory) : Type 0 where
  pub same_published : m'.header.max_frame ≡ m.header.max_frame
  pub same_bitmap : m'.bitmap ≡ m.bitmap
  pub same_reader_frames : m'.reader_frames ≡ m.reader_frames
  pub same_reader_owners : m'.reader_owners ≡ m.reader_owners
