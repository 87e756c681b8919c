-- The lent memory that all processes share, what each process has to itself, and one store to a cell (document 01, "Settings and lent memory"). A new cell, or a new lent part, is declared here. Assumes nothing.
use Rattle.std.specs.Prelude.{cond, List, [], ℕ, ◌/◌, ◌%◌, ◌^◌, eqb, get_or, set}
use Rattle.wal_types.specs.declared.Header.{Header}
use Rattle.wal_types.specs.declared.SharedReadMark.{SharedReadMark}

-- Shared memory: one field for each lent part.
pub record Memory : Type 0 where
  -- length, overflow flag, blocks in use, published frame, counters and the two locks' owners
  pub header : Header
  -- entry i of the index is the pair (page i, frame i)
  pub pages : List ℕ
  pub frames : List ℕ
  -- block k has the cells from 8,192 × k on; a cell is a place in its block + 1, or 0 for empty
  pub hash : List ℕ
  -- bit i mod 64 of word i / 64 is slot i's, 1 = free
  pub bitmap : List ℕ
  -- slot i's mark and owner
  pub reader_frames : List ℕ
  pub reader_owners : List ℕ

-- A process's own cells, 0 = not held here, and its registry of shared marks.
pub record Process : Type 0 where
  pub local_readers : List ℕ
  pub local_writer : ℕ
  pub local_checkpoint : ℕ
  pub registry : List SharedReadMark

-- MEMORY AND PROCESS WITH SOMETHING ELSE IN THEM. Every other definition that changes a part goes through one of these.
-- the memory with another header
abbrev pub with_header : Memory → Header → Memory
with_header m h = record { header = h; pages = m.pages; frames = m.frames; hash = m.hash; bitmap = m.bitmap; reader_frames = m.reader_frames; reader_owners = m.reader_owners }

-- with other page, frame and hash cells
abbrev pub with_index : Memory → List ℕ → List ℕ → List ℕ → Memory
with_index m p f h = record { header = m.header; pages = p; frames = f; hash = h; bitmap = m.bitmap; reader_frames = m.reader_frames; reader_owners = m.reader_owners }

-- with other bitmap words, slot frames and slot owners
abbrev pub with_slots : Memory → List ℕ → List ℕ → List ℕ → Memory
with_slots m b f o = record { header = m.header; pages = m.pages; frames = m.frames; hash = m.hash; bitmap = b; reader_frames = f; reader_owners = o }

-- the process with other own cells, and with another registry
abbrev pub with_local_readers : Process → List ℕ → Process
with_local_readers p l = record { local_readers = l; local_writer = p.local_writer; local_checkpoint = p.local_checkpoint; registry = p.registry }

abbrev pub with_local_writer : Process → ℕ → Process
with_local_writer p v = record { local_readers = p.local_readers; local_writer = v; local_checkpoint = p.local_checkpoint; registry = p.registry }

abbrev pub with_local_checkpoint : Process → ℕ → Process
with_local_checkpoint p v = record { local_readers = p.local_readers; local_writer = p.local_writer; local_checkpoint = v; registry = p.registry }

abbrev pub with_registry : Process → List SharedReadMark → Process
with_registry p r = record { local_readers = p.local_readers; local_writer = p.local_writer; local_checkpoint = p.local_checkpoint; registry = r }

-- CELLS
-- The header's cells.
pub data HeaderCell : Type 0 where
  frame_index_blocks_cell frame_index_len_cell frame_index_overflowed_cell max_frame_cell nbackfills_cell transaction_count_cell visibility_generation_cell checkpoint_seq_cell checkpoint_epoch_cell checksum_1_cell checksum_2_cell writer_owner_cell checkpoint_owner_cell : HeaderCell

-- each cell's place, by which cells are told apart
abbrev pub place : HeaderCell → ℕ
place frame_index_blocks_cell = 0
place frame_index_len_cell = 1
place frame_index_overflowed_cell = 2
place max_frame_cell = 3
place nbackfills_cell = 4
place transaction_count_cell = 5
place visibility_generation_cell = 6
place checkpoint_seq_cell = 7
place checkpoint_epoch_cell = 8
place checksum_1_cell = 9
place checksum_2_cell = 10
place writer_owner_cell = 11
place checkpoint_owner_cell = 12

-- v where c is the cell at this place, else what was there
abbrev pub if_at : HeaderCell → ℕ → ℕ → ℕ → ℕ
if_at c here v old = cond (eqb (place c) here) v old

-- the header with v in cell c
abbrev pub header_with : HeaderCell → ℕ → Header → Header
header_with c v h =
    record {
      frame_index_blocks = if_at c 0 v h.frame_index_blocks;
      frame_index_len = if_at c 1 v h.frame_index_len;
      frame_index_overflowed = if_at c 2 v h.frame_index_overflowed;
      max_frame = if_at c 3 v h.max_frame;
      nbackfills = if_at c 4 v h.nbackfills;
      transaction_count = if_at c 5 v h.transaction_count;
      visibility_generation = if_at c 6 v h.visibility_generation;
      checkpoint_seq = if_at c 7 v h.checkpoint_seq;
      checkpoint_epoch = if_at c 8 v h.checkpoint_epoch;
      checksum_1 = if_at c 9 v h.checksum_1;
      checksum_2 = if_at c 10 v h.checksum_2;
      writer_owner = if_at c 11 v h.writer_owner;
      checkpoint_owner = if_at c 12 v h.checkpoint_owner;
    }

-- the header with 0 in every cell
abbrev pub zero_header : Header
zero_header = record { frame_index_blocks = 0; frame_index_len = 0; frame_index_overflowed = 0; max_frame = 0; nbackfills = 0; transaction_count = 0; visibility_generation = 0; checkpoint_seq = 0; checkpoint_epoch = 0; checksum_1 = 0; checksum_2 = 0; writer_owner = 0; checkpoint_owner = 0 }

-- The lists of the index, and those of the reader slots.
pub data IndexPart : Type 0 where
  page_cells frame_cells hash_cells : IndexPart

abbrev pub index_place : IndexPart → ℕ
index_place page_cells = 0
index_place frame_cells = 1
index_place hash_cells = 2

pub data SlotPart : Type 0 where
  bitmap_words slot_frames slot_owners : SlotPart

abbrev pub slot_place : SlotPart → ℕ
slot_place bitmap_words = 0
slot_place slot_frames = 1
slot_place slot_owners = 2

-- STORES
-- One store of one whole cell: to the header, to a list of the index, to a list of the reader slots.
pub data Store : Type 0 where
  to_header : HeaderCell → ℕ → Store
  to_index : IndexPart → ℕ → ℕ → Store
  to_slots : SlotPart → ℕ → ℕ → Store

abbrev pub to_page : ℕ → ℕ → Store
to_page i v = to_index page_cells i v

abbrev pub to_frame_cell : ℕ → ℕ → Store
to_frame_cell i v = to_index frame_cells i v

abbrev pub to_hash : ℕ → ℕ → Store
to_hash i v = to_index hash_cells i v

abbrev pub to_bitmap : ℕ → ℕ → Store
to_bitmap i v = to_slots bitmap_words i v

abbrev pub to_reader_frame : ℕ → ℕ → Store
to_reader_frame i v = to_slots slot_frames i v

abbrev pub to_reader_owner : ℕ → ℕ → Store
to_reader_owner i v = to_slots slot_owners i v

-- cell i of the list stored to if it is the one at this place, else the list as it was
abbrev pub set_if : ℕ → ℕ → ℕ → ℕ → List ℕ → List ℕ
set_if part here i v old = cond (eqb part here) (set old i v) old

-- the memory after one store
abbrev pub put : Store → Memory → Memory
put (to_header c v) m = with_header m (header_with c v m.header)
put (to_index part i v) m = with_index m (set_if (index_place part) 0 i v m.pages) (set_if (index_place part) 1 i v m.frames) (set_if (index_place part) 2 i v m.hash)
put (to_slots part i v) m = with_slots m (set_if (slot_place part) 0 i v m.bitmap) (set_if (slot_place part) 1 i v m.reader_frames) (set_if (slot_place part) 2 i v m.reader_owners)

-- WORDS OF OTHER DEFINITIONS
-- bit i of a number, 0 or 1
unfoldable pub bit_at : ℕ → ℕ → ℕ
bit_at word i = word / 2 ^ i % 2

-- slot i's bit in a bitmap
abbrev pub slot_bit : List ℕ → ℕ → ℕ
slot_bit words i = bit_at (get_or words (i / 64) 0) (i % 64)

-- a record of the registry that holds nothing
abbrev pub no_mark : SharedReadMark
no_mark = record { mark = 0; slot = 0; owner = record { 0 = 0 }; holders = 0 }

-- memory and a process with nothing in them
abbrev pub blank_memory : Memory
blank_memory = record { header = zero_header; pages = []; frames = []; hash = []; bitmap = []; reader_frames = []; reader_owners = [] }

abbrev pub blank_process : Process
blank_process = record { local_readers = []; local_writer = 0; local_checkpoint = 0; registry = [] }
