-- One block's hash table: clear, insert, rebuild and probe, as the source has them, on any contents. Assumes nothing.
-- h is the block's 8,192 cells; a cell is a place in the block + 1, or 0 for empty.
use Rattle.std.specs.Prelude.{Option, Some, None, cond, List, [], ◌∷◌, ℕ, zero, suc, ◌+◌, ◌-◌, eqb, ltb, get_or, set, replicate}
use Rattle.wal_types.specs.Settings.{block_cells}
use Rattle.index_hash.specs.Home.{home, next_cell}

-- every cell empty
unfoldable pub cleared : List ℕ
cleared = replicate block_cells 0

-- the first empty cell from this one on, within so many cells
unfoldable pub empty_from : ℕ → List ℕ → ℕ → Option ℕ
empty_from zero h cell = None
empty_from (suc left) h cell = cond (eqb (get_or h cell 0) 0) (Some cell) (empty_from left h (next_cell cell))

-- the cell where a page's entry goes: the first empty one from its home on
unfoldable pub empty_cell : List ℕ → ℕ → Option ℕ
empty_cell h page = empty_from block_cells h (home page)

-- the table with the entry at this place of the block named in that cell
abbrev pub named_in : List ℕ → ℕ → Option ℕ → List ℕ
named_in h place (Some cell) = set h cell (place + 1)
named_in h place None = h

-- insert: the entry at this place of the block, of this page
unfoldable pub inserted : List ℕ → ℕ → ℕ → List ℕ
inserted h place page = named_in h place (empty_cell h page)

-- rebuild: cleared, then the first n entries inserted in order
unfoldable pub built : List ℕ → ℕ → List ℕ
built pages zero = cleared
built pages (suc n) = inserted (built pages n) n (get_or pages n 0)

-- Probe for a page among the first `visible` entries: from its home, cell by cell. An empty cell ends it. A cell that names
-- an entry beyond the visible ones does not advance the probe, which so ends too. The last entry of the page that was met is
-- the answer.
unfoldable pub probe_from : ℕ → List ℕ → List ℕ → ℕ → ℕ → ℕ → Option ℕ → Option ℕ
probe_from zero h pages page visible cell latest = latest
probe_from (suc left) h pages page visible cell latest =
    cond (eqb (get_or h cell 0) 0) latest
    (cond (ltb (get_or h cell 0 - 1) visible)
    (probe_from left h pages page visible (next_cell cell) (cond (eqb (get_or pages (get_or h cell 0 - 1) 0) page) (Some (get_or h cell 0 - 1)) latest))
    latest)

-- the whole probe: from the page's home, with nothing met
unfoldable pub probe : List ℕ → List ℕ → ℕ → ℕ → Option ℕ
probe h pages page visible = probe_from block_cells h pages page visible (home page) None

-- How many cells the probe looks at. The empty cell that ends it counts, and so does a cell that names an entry beyond the
-- visible ones.
unfoldable pub looked_from : ℕ → List ℕ → ℕ → ℕ → ℕ
looked_from zero h visible cell = 0
looked_from (suc left) h visible cell =
    cond (eqb (get_or h cell 0) 0) 1
    (cond (ltb (get_or h cell 0 - 1) visible)
    (1 + looked_from left h visible (next_cell cell))
    1)

-- of the whole probe
unfoldable pub looked : List ℕ → ℕ → ℕ → ℕ
looked h page visible = looked_from block_cells h visible (home page)

-- the number of used cells
unfoldable pub used : List ℕ → ℕ
used [] = 0
used (cell ∷ h) = cond (eqb cell 0) 0 1 + used h
