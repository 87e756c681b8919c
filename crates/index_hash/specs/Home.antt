-- Where a page's search starts in a block's hash table, and how it goes on (document 01, "Home of a page"; SQLite's
-- "WAL-mode File Format", the hash tables of the WAL-index). Assumes nothing.
use Rattle.std.specs.Prelude.{ℕ, ◌+◌, ◌*◌, ◌%◌}

-- home of a page: (page × 383) mod 8,192
unfoldable pub home : ℕ → ℕ
home page = page * 383 % 8192

-- next cell: + 1 mod 8,192
unfoldable pub next_cell : ℕ → ℕ
next_cell cell = (cell + 1) % 8192

-- the cell j steps from the page's home
unfoldable pub cell_at : ℕ → ℕ → ℕ
cell_at page j = (home page + j) % 8192
