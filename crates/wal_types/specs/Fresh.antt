-- Fresh memory (document 01: "Fresh: .."). Page and frame cells, the header's checksums, and whatever lies past the cells that a call may touch, are arbitrary. Assumes nothing.
use Rattle.std.specs.Prelude.{◌≡◌, ℕ, ◌<◌, get_or}
use Rattle.wal_types.specs.declared.Header.{Header}
use Rattle.wal_types.specs.Settings.{cells_for, unused}
use Rattle.wal_types.specs.Memory.{Memory, Process, header_with, frame_index_blocks_cell, checksum_1_cell, checksum_2_cell, zero_header, slot_bit, no_mark}

-- 0 in every cell, but for the starting blocks in use and the checksums, which are as given
abbrev pub fresh_header : ℕ → ℕ → ℕ → Header
fresh_header start c1 c2 = header_with frame_index_blocks_cell start (header_with checksum_1_cell c1 (header_with checksum_2_cell c2 zero_header))

-- Shared memory for B blocks and n slots, with the starting blocks in use, before the first call.
pub record Fresh (b start n : ℕ) (m : Memory) : Type 0 where
  -- what the checksums happen to be
  pub c1 : ℕ
  pub c2 : ℕ
  pub header_fresh : m.header ≡ fresh_header start c1 c2
  pub hash_empty : (i : ℕ) → i < cells_for b → get_or m.hash i 0 ≡ 0
  pub bits_free : (i : ℕ) → i < n → slot_bit m.bitmap i ≡ 1
  pub frames_unused : (i : ℕ) → i < n → get_or m.reader_frames i unused ≡ unused
  pub owners_none : (i : ℕ) → i < n → get_or m.reader_owners i 0 ≡ 0

-- A process before its first call: it holds nothing, and its registry is empty.
pub record FreshProcess (n : ℕ) (p : Process) : Type 0 where
  pub readers_none : (i : ℕ) → i < n → get_or p.local_readers i 0 ≡ 0
  pub writer_none : p.local_writer ≡ 0
  pub checkpoint_none : p.local_checkpoint ≡ 0
  pub registry_empty : (i : ℕ) → i < n → (get_or p.registry i no_mark).holders ≡ 0
