-- One bit of a word set, cleared and tested; the lowest set bit. Assumes nothing.
use Rattle.std.specs.Prelude.{◌≡◌, ℕ, ◌+◌, ◌-◌, ◌*◌, ◌^◌, ◌<◌, ◌≤◌}
use Rattle.wal_types.specs.Memory.{bit_at}

-- the word with bit i set, and with bit i cleared
unfoldable pub set_bit : ℕ → ℕ → ℕ
set_bit word i = word + (1 - bit_at word i) * 2 ^ i

unfoldable pub clear_bit : ℕ → ℕ → ℕ
clear_bit word i = word - bit_at word i * 2 ^ i

-- t is the least bit that is set, or 64 where none is
pub record Lowest (word t : ℕ) : Type 0 where
  pub most : t ≤ 64
  pub before : (j : ℕ) → j < t → bit_at word j ≡ 0
  pub here : t < 64 → bit_at word t ≡ 1
