-- How many hash cells a lookup on an index grown from fresh looks at (document 02, Slip 1). Assumes nothing.
use Rattle.std.specs.Prelude.{Option, ℕ, ◌*◌, ◌<◌, ◌≤◌}
use Rattle.wal_types.specs.Settings.{entries_for}
use Rattle.wal_types.specs.Memory.{Memory}
use Rattle.index_find.specs.Find.{looked_block, summed_answer, blocks_for, find_looked}
use Rattle.index_grown.specs.Grown.{GrownFrom}

-- the most for one block: all its 4,096 entries, and the empty cell that ends the probe
abbrev pub block_bound : ℕ
block_bound = 4097

-- how many blocks a lookup probes
abbrev pub probed : ℕ → ℕ → ℕ → Option ℕ → Memory → ℕ
probed page low high w m = summed_answer (λ k n. 1) page low high w m

-- Each block that has an entry, whatever page is looked for and however many entries are visible; and a lookup, summed over
-- the blocks that it probes, of which there are no more than the entries take.
pub record LookedBound (capacity b : ℕ) (m : Memory) : Type 0 where
  pub each_block : (k page n : ℕ) → entries_for k < m.header.frame_index_len → looked_block k page n m.hash ≤ block_bound
  pub all_probed : (page low high : ℕ) (w : Option ℕ) → find_looked capacity b page low high w m ≤ block_bound * probed page low high w m
  pub probed_most : (page low high : ℕ) (w : Option ℕ) → probed page low high w m ≤ blocks_for m.header.frame_index_len

-- It holds of every index grown from fresh by records and rollbacks.
unfoldable pub LookedBounded : Type 0
LookedBounded = (capacity b : ℕ) (m : Memory) → GrownFrom capacity b m → LookedBound capacity b m
