-- The map of a block's cells that a rebuild keeps: a row of words with a bit for each cell, 0 where the cell is known to be
-- used; and one with a bit for each word of the first, 0 where the word is 0. Assumes nothing.
use Rattle.std.specs.Prelude.{Option, Some, None, ◌≡◌, cond, List, ℕ, ◌/◌, ◌%◌, ◌<◌, ◌≤◌, eqb, get_or, set}
use Rattle.wal_types.specs.Memory.{bit_at}
use Rattle.word_bits.specs.Bit.{clear_bit}
use Rattle.index_search.specs.InnerRun.{All, Used}

-- a bit of a row of words is 0
abbrev pub Clear : List ℕ → ℕ → Type 0
Clear row i = bit_at (get_or row (i / 64) 0) (i % 64) ≡ 0

-- every number on the way from one to another, which may go round at the size, has the property
abbrev pub Way : (ℕ → Type 0) → ℕ → ℕ → ℕ → Type 0
Way P size from to = (from ≤ to → All P from to) × (to < from → All P from size × All P 0 to)

-- the least number from one on that may lack the property, below a size; none, if every number up to there has it
abbrev pub UpTo : (ℕ → Type 0) → ℕ → ℕ → Option ℕ → Type 0
UpTo P from size (Some to) = ((from ≤ to) × (to < size)) × All P from to
UpTo P from size None = All P from size

-- every number on the way to the one found, if one is, has the property
abbrev pub WayTo : (ℕ → Type 0) → ℕ → ℕ → Option ℕ → Type 0
WayTo P size from (Some to) = (to < size) × Way P size from to
WayTo P size from None = Unit

-- a word whose bit is 0 is 0
abbrev pub WordsTell : List ℕ → List ℕ → Type 0
WordsTell cells words = (w : ℕ) → w < 128 → Clear words w → get_or cells w 0 ≡ 0

-- the map is right of a table: a cell whose bit is 0 is used
abbrev pub Tells : List ℕ → List ℕ → Type 0
Tells h cells = (c : ℕ) → c < 8192 → Clear cells c → Used h c

-- the row without a bit
unfoldable pub without_bit : List ℕ → ℕ → List ℕ
without_bit row i = set row (i / 64) (clear_bit (get_or row (i / 64) 0) (i % 64))

-- the bits of the words once one of the words has changed: without its bit where it is 0
unfoldable pub words_left : List ℕ → List ℕ → ℕ → List ℕ
words_left cells words w = cond (eqb (get_or cells w 0) 0) (without_bit words w) words
