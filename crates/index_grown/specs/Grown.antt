-- The index grown from fresh memory, and what is true of it. Assumes nothing.
use Rattle.std.specs.Prelude.{◌≡◌, Bool, List, ℕ, ◌-◌, ◌*◌, ◌<◌, ◌≤◌, min, length, get_or}
use Rattle.wal_types.specs.Settings.{entries_for, cells_for}
use Rattle.wal_types.specs.Memory.{Memory, Process}
use Rattle.wal_types.specs.Call.{after}
use Rattle.wal_types.specs.Fresh.{Fresh}
use Rattle.index_hash.specs.Block.{built}
use Rattle.index_find.specs.Index.{block_cells_of, block_pages_of}
use Rattle.index_record.specs.Record.{record_frame}
use Rattle.index_record.specs.Rollback.{rollback_frames}

-- page, frame and hash cells enough for B blocks
pub record LongMemory (b : ℕ) (m : Memory) : Type 0 where
  pub pages_long : entries_for b ≤ length m.pages
  pub frames_long : entries_for b ≤ length m.frames
  pub hash_long : cells_for b ≤ length m.hash

-- the first n frames rise strictly
abbrev pub FramesRise : ℕ → List ℕ → Type 0
FramesRise n frames = (i j : ℕ) → i < j → j < n → get_or frames i 0 < get_or frames j 0

-- each block that has some of the first n entries is exactly the block built from its pages
abbrev pub BlocksBuilt : ℕ → List ℕ → List ℕ → Type 0
BlocksBuilt n pages hash = (k : ℕ) → 4096 * k < n → block_cells_of k hash ≡ built (block_pages_of k pages) (min (n - 4096 * k) 4096)

-- What is true of every index grown from fresh.
pub record Grown (capacity b : ℕ) (m : Memory) : Type 0 where
  pub long : LongMemory b m
  pub len_in_capacity : m.header.frame_index_len ≤ capacity
  pub len_in_blocks : m.header.frame_index_len ≤ entries_for m.header.frame_index_blocks
  pub blocks_in_limit : m.header.frame_index_blocks ≤ b
  pub frames_rise : FramesRise m.header.frame_index_len m.frames
  pub blocks_built : BlocksBuilt m.header.frame_index_len m.pages m.hash

-- nothing of the index differs: length, blocks in use, pages, frames and hash
pub record SameIndex (m m' : Memory) : Type 0 where
  pub same_len : m'.header.frame_index_len ≡ m.header.frame_index_len
  pub same_blocks : m'.header.frame_index_blocks ≡ m.header.frame_index_blocks
  pub same_pages : m'.pages ≡ m.pages
  pub same_frames : m'.frames ≡ m.frames
  pub same_hash : m'.hash ≡ m.hash

-- Memory reached from fresh memory that is long enough, with the starting blocks in use, by records and rollbacks, refused
-- ones included, and by changes that leave the index alone. Any process may make each.
pub data GrownFrom (capacity b : ℕ) : Memory → Type 0 where
  from_fresh : {m : Memory} (start n : ℕ) → start ≤ b → Fresh b start n m → LongMemory b m → GrownFrom capacity b m
  by_record : {m : Memory} (page frame : ℕ) (grow : Bool) (p : Process) → GrownFrom capacity b m → GrownFrom capacity b (after (record_frame capacity b page frame grow) m p).memory
  by_rollback : {m : Memory} (bound : ℕ) (p : Process) → GrownFrom capacity b m → GrownFrom capacity b (after (rollback_frames capacity b bound) m p).memory
  by_other : {m m' : Memory} → SameIndex m m' → GrownFrom capacity b m → GrownFrom capacity b m'
