-- The entries that the hash names. Assumes nothing.
use Rattle.std.specs.Prelude.{Bool, List, ℕ, ◌+◌, eqb}
use Rattle.std.specs.List.{list_any}
use Rattle.index_find.specs.Index.{block_of, place_of, block_cells_of}

-- some cell holds this value
unfoldable pub has_cell : List ℕ → ℕ → Bool
has_cell cells v = list_any (λ c. eqb c v) cells

-- a cell of its block's hash names entry n
unfoldable pub named : List ℕ → ℕ → Bool
named hash n = has_cell (block_cells_of (block_of n) hash) (place_of n + 1)
