-- find_frame (document 01, "find_frame"). Assumes nothing.
use Rattle.std.specs.Prelude.{Option, Some, None, Result, Ok, Err, cond, List, [], ℕ, zero, suc, ◌+◌, ◌-◌, ◌/◌, ◌≤◌, min, take, eqb, leb, ltb, get_or}
use Rattle.wal_types.specs.Settings.{within, block_entries, entries_for, cells_for}
use Rattle.wal_types.specs.Memory.{Memory}
use Rattle.wal_types.specs.declared.refusal.Refusal.{Refusal}
use Rattle.wal_types.specs.Refusal.{number, lowest}
use Rattle.wal_types.specs.Call.{Call, Answer, refused, frame_found, none, does, unless}
use Rattle.index_hash.specs.Block.{probe, looked}
use Rattle.index_find.specs.declared.find.Looked.{Looked}
use Rattle.index_find.specs.Index.{index_tests, block_cells_of, block_pages_of}

-- The source's binary search for how many entries have a frame of at most `top`, as it is written: on frames that do not
-- rise it is not a count. fuel is at least high - low.
unfoldable pub visible_from : ℕ → List ℕ → ℕ → ℕ → ℕ → ℕ
visible_from zero frames top low high = low
visible_from (suc fuel) frames top low high =
    cond (ltb low high)
    (cond (leb (get_or frames (low + (high - low) / 2) 0) top)
    (visible_from fuel frames top (low + (high - low) / 2 + 1) high)
    (visible_from fuel frames top low (low + (high - low) / 2)))
    low

unfoldable pub visible : List ℕ → ℕ → ℕ → ℕ
visible frames len top = visible_from len frames top 0 len

-- the pages of block k's entries among the first n
abbrev pub visible_pages_of : ℕ → ℕ → List ℕ → List ℕ
visible_pages_of k n pages = take (min (n - entries_for k) block_entries) (block_pages_of k pages)

-- block k is probed for the page among those of the first n entries that it has
abbrev pub probe_block : ℕ → ℕ → ℕ → List ℕ → List ℕ → Option ℕ
probe_block k page n pages hash = probe (block_cells_of k hash) (block_pages_of k pages) page (min (n - entries_for k) block_entries)

-- the frame of the entry found in block k, if it is within the bounds
abbrev pub looked_up : ℕ → List ℕ → ℕ → ℕ → Option ℕ → Option ℕ
looked_up k frames low high (Some i) = cond (within low high (get_or frames (entries_for k + i) 0)) (Some (get_or frames (entries_for k + i) 0)) None
looked_up k frames low high None = None

abbrev pub else_look : Option ℕ → Option ℕ → Option ℕ
else_look (Some f) rest = Some f
else_look None rest = rest

-- Blocks are probed from the last one down. After a block whose entry is out of bounds the block before is probed.
unfoldable pub find_in : ℕ → ℕ → List ℕ → List ℕ → List ℕ → ℕ → ℕ → ℕ → Option ℕ
find_in zero n pages frames hash page low high = None
find_in (suc k) n pages frames hash page low high =
    else_look (looked_up k frames low high (probe_block k page n pages hash)) (find_in k n pages frames hash page low high)

-- how many cells of block k's hash its probe looks at
abbrev pub looked_block : ℕ → ℕ → ℕ → List ℕ → ℕ
looked_block k page n hash = looked (block_cells_of k hash) page (min (n - entries_for k) block_entries)

-- what the blocks before add: nothing where this one has the frame
abbrev pub if_none : Option ℕ → ℕ → ℕ
if_none (Some f) rest = 0
if_none None rest = rest

-- A number of each block, summed over the blocks that are probed: from the last one down to the one that has the frame, that
-- one included.
unfoldable pub summed_in : (ℕ → ℕ) → ℕ → ℕ → List ℕ → List ℕ → List ℕ → ℕ → ℕ → ℕ → ℕ
summed_in of_block zero n pages frames hash page low high = 0
summed_in of_block (suc k) n pages frames hash page low high =
    of_block k + if_none (looked_up k frames low high (probe_block k page n pages hash)) (summed_in of_block k n pages frames hash page low high)

-- the cells that the probes of these blocks look at
abbrev pub looked_in : ℕ → ℕ → List ℕ → List ℕ → List ℕ → ℕ → ℕ → ℕ → ℕ
looked_in k n pages frames hash page low high = summed_in (λ i. looked_block i page n hash) k n pages frames hash page low high

-- The upper bound is the watermark if given, else max. With a watermark the lower bound is 0.
abbrev pub upper : ℕ → Option ℕ → ℕ
upper high (Some w) = w
upper high None = high

abbrev pub lower : ℕ → Option ℕ → ℕ
lower low (Some w) = 0
lower low None = low

-- blocks that n entries take: n / 4,096 rounded up
abbrev pub blocks_for : ℕ → ℕ
blocks_for n = (n + 4095) / block_entries

-- the lent parts have the blocks of n entries
pub record BlocksFit (n pages frames hash : ℕ) : Type 0 where
  pub blocks_most : blocks_for n ≤ 16
  pub pages_fit : entries_for (blocks_for n) ≤ pages
  pub frames_fit : entries_for (blocks_for n) ≤ frames
  pub hash_fit : cells_for (blocks_for n) ≤ hash

abbrev pub lookup_answer : Option ℕ → Answer
lookup_answer (Some f) = frame_found f
lookup_answer None = none

-- Upper below min: none. Else the entries that the upper bound makes visible are looked through.
abbrev pub find_answer : ℕ → ℕ → ℕ → Option ℕ → Memory → Answer
find_answer page low high w m =
    cond (ltb (upper high w) low) none
    (lookup_answer
    (find_in (blocks_for (visible m.frames m.header.frame_index_len (upper high w)))
    (visible m.frames m.header.frame_index_len (upper high w))
    m.pages m.frames m.hash page (lower low w) (upper high w)))

unfoldable pub find_frame : ℕ → ℕ → ℕ → ℕ → ℕ → Option ℕ → Call
find_frame capacity b page low high w =
    unless (λ m p. index_tests capacity b m) (λ m. does (find_answer page low high w m) (λ z. []) m)

-- A number of each block, given the block and how many entries are visible, summed over the blocks that the lookup probes.
-- Upper below min, or no visible entry: no block.
abbrev pub summed_answer : (ℕ → ℕ → ℕ) → ℕ → ℕ → ℕ → Option ℕ → Memory → ℕ
summed_answer of_block page low high w m =
    cond (ltb (upper high w) low) 0
    (summed_in (λ k. of_block k (visible m.frames m.header.frame_index_len (upper high w)))
    (blocks_for (visible m.frames m.header.frame_index_len (upper high w)))
    (visible m.frames m.header.frame_index_len (upper high w))
    m.pages m.frames m.hash page (lower low w) (upper high w))

-- HOW MANY HASH CELLS A LOOKUP LOOKS AT (document 02, Slip 1): those of each block's probe
abbrev pub looked_answer : ℕ → ℕ → ℕ → Option ℕ → Memory → ℕ
looked_answer page low high w m = summed_answer (λ k n. looked_block k page n m.hash) page low high w m

-- a refused lookup looks at none
unfoldable pub find_looked : ℕ → ℕ → ℕ → ℕ → ℕ → Option ℕ → Memory → ℕ
find_looked capacity b page low high w m = cond (eqb (lowest (index_tests capacity b m)) 0) (looked_answer page low high w m) 0

-- What a call's result tells: the answer, and the cells.
abbrev pub found_answer : Result Looked Refusal → Answer
found_answer (Ok looked) = lookup_answer looked.found
found_answer (Err r) = refused (number r)

abbrev pub cells_told : Result Looked Refusal → ℕ
cells_told (Ok looked) = looked.cells
cells_told (Err r) = 0
