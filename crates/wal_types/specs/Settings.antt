-- Settings, their limits, and how many cells of each part a call is to be lent (document 01, "Settings and lent memory"). Assumes nothing.
use Rattle.std.specs.Prelude.{Bool, true, false, ◌&&◌, ℕ, ◌+◌, ◌-◌, ◌*◌, ◌/◌, ◌^◌, leb}
use Rattle.wal_types.specs.declared.SharedWalOwnershipMode.{SharedWalOwnershipMode}
use Rattle.wal_types.specs.declared.SharedWalOwnershipMode.TheVariants.{LinuxOfd, ProcessScopedFcntl}

-- x is from low to high, both included
abbrev pub within : ℕ → ℕ → ℕ → Bool
within low high x = leb low x && leb x high

-- capacity 1..65,536
abbrev pub capacity_in_limits : ℕ → Bool
capacity_in_limits capacity = within 1 65536 capacity

-- maximum blocks B 1..16
abbrev pub max_blocks_in_limits : ℕ → Bool
max_blocks_in_limits b = within 1 16 b

-- slots n 1..256
abbrev pub slots_in_limits : ℕ → Bool
slots_in_limits n = within 1 256 n

-- a block of the index has 4,096 entries and 8,192 hash cells
abbrev pub block_entries : ℕ
block_entries = 4096

abbrev pub block_cells : ℕ
block_cells = 8192

-- page cells, and frame cells, for B blocks
abbrev pub entries_for : ℕ → ℕ
entries_for b = block_entries * b

-- hash cells for B blocks
abbrev pub cells_for : ℕ → ℕ
cells_for b = block_cells * b

-- bitmap words for n slots: n / 64 rounded up
abbrev pub words_for : ℕ → ℕ
words_for n = (n + 63) / 64

-- UNUSED, the frame of a slot that holds no mark
abbrev pub unused : ℕ
unused = 2 ^ 64 - 1

-- 65,535, the most holders of one shared mark
abbrev pub most_holders : ℕ
most_holders = 65535

-- whether the lock mode is ProcessScopedFcntl, "Fcntl" for short
abbrev pub is_fcntl : SharedWalOwnershipMode → Bool
is_fcntl LinuxOfd = false
is_fcntl ProcessScopedFcntl = true
