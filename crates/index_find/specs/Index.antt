-- What all calls on the index share: its refusals, its blocks, and the stores of a hash table's clearing and of one entry's naming. Assumes nothing.
use Rattle.std.specs.Prelude.{Option, Some, None, ◌≡◌, Bool, not, ◌||◌, cond, List, [], ◌∷◌, ◌++◌, ℕ, zero, suc, ◌+◌, ◌/◌, ◌%◌, ◌<◌, ◌≤◌, ltb, length, get_or, take, drop}
use Rattle.wal_types.specs.declared.Header.{Header}
use Rattle.wal_types.specs.Settings.{capacity_in_limits, max_blocks_in_limits, block_entries, block_cells, entries_for, cells_for}
use Rattle.wal_types.specs.Memory.{Memory, Process, with_header, with_index, Store, to_hash}
use Rattle.wal_types.specs.Store.{Piece, ◌then◌}
use Rattle.wal_types.specs.Refusal.{Test, ◌if◌, number}
use Rattle.wal_types.specs.declared.refusal.Refusal.TheVariants.{Settings, ShortMemory}
use Rattle.wal_types.specs.Call.{Call, Carried, Answer, after, done}
use Rattle.index_hash.specs.Block.{empty_cell}

-- Refusal 1: a setting out of its limits, length above capacity or 4,096 × blocks, or blocks above B.
abbrev pub bad_settings : ℕ → ℕ → Header → Bool
bad_settings capacity b h =
    not (capacity_in_limits capacity)
    || not (max_blocks_in_limits b)
    || ltb capacity h.frame_index_len
    || ltb b h.frame_index_blocks
    || ltb (entries_for h.frame_index_blocks) h.frame_index_len

-- Refusal 2: fewer page or frame cells than B blocks have; where the hash is lent, fewer page, frame or hash cells.
abbrev pub short_entries : ℕ → ℕ → ℕ → Bool
short_entries b pages frames = ltb pages (entries_for b) || ltb frames (entries_for b)

abbrev pub short_index : ℕ → ℕ → ℕ → ℕ → Bool
short_index b pages frames hash = short_entries b pages frames || ltb hash (cells_for b)

-- the refusals that every call on the index has that is lent the hash, and those of a call that is not
abbrev pub index_tests : ℕ → ℕ → Memory → List Test
index_tests capacity b m =
    (Settings if bad_settings capacity b m.header)
    ∷ (ShortMemory if short_index b (length m.pages) (length m.frames) (length m.hash))
    ∷ []

abbrev pub entries_tests : ℕ → ℕ → Memory → List Test
entries_tests capacity b m =
    (Settings if bad_settings capacity b m.header)
    ∷ (ShortMemory if short_entries b (length m.pages) (length m.frames))
    ∷ []

-- the number of the first of each, 0 if there is none
abbrev pub index_refusal : ℕ → ℕ → Header → ℕ → ℕ → ℕ → ℕ
index_refusal capacity b h pages frames hash =
    cond (bad_settings capacity b h) (number Settings) (cond (short_index b pages frames hash) (number ShortMemory) 0)

abbrev pub entries_refusal : ℕ → ℕ → Header → ℕ → ℕ → ℕ
entries_refusal capacity b h pages frames =
    cond (bad_settings capacity b h) (number Settings) (cond (short_entries b pages frames) (number ShortMemory) 0)

-- Entry n is in block n / 4,096, at place n mod 4,096.
abbrev pub block_of : ℕ → ℕ
block_of n = n / block_entries

abbrev pub place_of : ℕ → ℕ
place_of n = n % block_entries

-- the hash cells of block k, and its pages
unfoldable pub block_cells_of : ℕ → List ℕ → List ℕ
block_cells_of k hash = take block_cells (drop (cells_for k) hash)

unfoldable pub block_pages_of : ℕ → List ℕ → List ℕ
block_pages_of k pages = take block_entries (drop (entries_for k) pages)

-- the hash with other cells for block k
unfoldable pub with_block : ℕ → List ℕ → List ℕ → List ℕ
with_block k cells hash = take (cells_for k) hash ++ (cells ++ drop block_cells (drop (cells_for k) hash))

-- Stores of 0 to so many cells from this one on.
unfoldable pub zero_stores : ℕ → ℕ → List Store
zero_stores zero cell = []
zero_stores (suc left) cell = to_hash cell 0 ∷ zero_stores left (cell + 1)

-- Block k's hash is cleared, cell by cell.
abbrev pub clear_block : ℕ → Piece
clear_block k m = zero_stores block_cells (cells_for k)

-- Block k's hash names the entry at a place in the cell found for it; in a full table nothing is stored.
abbrev pub name_stores : ℕ → ℕ → Option ℕ → List Store
name_stores k place (Some cell) = to_hash (cells_for k + cell) (place + 1) ∷ []
name_stores k place None = []

-- Entry n, of this page, is inserted into its block's hash.
abbrev pub insert_entry : ℕ → ℕ → Piece
insert_entry n page m = name_stores (block_of n) (place_of n) (empty_cell (block_cells_of (block_of n) m.hash) page)

-- So many entries from entry n on are inserted in order, each by its page.
unfoldable pub insert_entries : ℕ → ℕ → Piece
insert_entries zero n m = []
insert_entries (suc left) n m = (insert_entry n (get_or m.pages n 0) then insert_entries left (n + 1)) m

-- the lent hash has block k
abbrev pub HasBlock : ℕ → ℕ → Type 0
HasBlock k hash = cells_for k + block_cells ≤ hash

-- the lent parts have a place for entry n, and its block's hash
pub record HasRoom (n pages frames hash : ℕ) : Type 0 where
  pub below_most : n < 65536
  pub page_room : n < pages
  pub frame_room : n < frames
  pub hash_room : HasBlock (block_of n) hash

-- a memory with this header and index in it
abbrev pub index_in : Memory → Header → List ℕ → List ℕ → List ℕ → Memory
index_in z h pages frames hash = with_index (with_header z h) pages frames hash

-- On any memory with this header and index in it, by any process, it answers a, leaves the header h' and the index at pages',
-- frames' and hash', and changes nothing else.
abbrev pub IndexCarried : Carried → Header → List ℕ → List ℕ → List ℕ → Answer → Header → List ℕ → List ℕ → List ℕ → Type 0
IndexCarried carried h pages frames hash a h' pages' frames' hash' =
    (z : Memory) (p : Process) → carried (index_in z h pages frames hash) p ≡ done a (index_in z h' pages' frames' hash') p

abbrev pub IndexCall : Call → Header → List ℕ → List ℕ → List ℕ → Answer → Header → List ℕ → List ℕ → List ℕ → Type 0
IndexCall call = IndexCarried (after call)

-- On any memory with this header and index in it, the number is c.
abbrev pub IndexNumber : (Memory → ℕ) → Header → List ℕ → List ℕ → List ℕ → ℕ → Type 0
IndexNumber number_of h pages frames hash c = (z : Memory) → c ≡ number_of (index_in z h pages frames hash)

-- a memory with this header and these entries in it, and any hash
abbrev pub entries_in : Memory → Header → List ℕ → List ℕ → Memory
entries_in z h pages frames = index_in z h pages frames z.hash

-- On any memory with this header and these entries in it, by any process, the call answers a and changes nothing. Whatever
-- the hash holds, and however long it is, the answer is the same.
abbrev pub EntriesCall : Call → Header → List ℕ → List ℕ → Answer → Type 0
EntriesCall call h pages frames a =
    (z : Memory) (p : Process) → after call (entries_in z h pages frames) p ≡ done a (entries_in z h pages frames) p
