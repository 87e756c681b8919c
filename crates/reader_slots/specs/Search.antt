-- Searches among slots, by a test of one. Assumes nothing.
use Rattle.std.specs.Prelude.{Option, Some, None, Bool, false, ◌||◌, cond, ℕ, zero, suc, ◌+◌}

-- the lowest of so many slots from this one on that the test picks
unfoldable pub lowest_slot : (ℕ → Bool) → ℕ → ℕ → Option ℕ
lowest_slot test zero i = None
lowest_slot test (suc left) i = cond (test i) (Some i) (lowest_slot test left (i + 1))

-- whether the test holds of one of so many slots from this one on
unfoldable pub some_slot : (ℕ → Bool) → ℕ → ℕ → Bool
some_slot test zero i = false
some_slot test (suc left) i = test i || some_slot test left (i + 1)
