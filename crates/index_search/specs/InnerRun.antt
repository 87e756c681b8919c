-- Runs of cells of one block's hash table, from one cell up to another, and what the entries that they name say of a page.
-- Assumes nothing.
use Rattle.std.specs.Prelude.{Option, Some, None, ◌≡◌, cond, List, ℕ, zero, suc, ◌+◌, ◌-◌, ◌<◌, ◌≤◌, eqb, get_or}
use Rattle.index_search.specs.declared.probe.Probed.{Probed}
use Rattle.wal_types.specs.Settings.{block_cells}

-- every number from one up to another has the property
abbrev pub All : (ℕ → Type 0) → ℕ → ℕ → Type 0
All P from to = (c : ℕ) → from ≤ c → c < to → P c

-- the cell names one of the first `visible` entries
abbrev pub Live : List ℕ → ℕ → ℕ → Type 0
Live h visible c = (1 ≤ get_or h c 0) × (get_or h c 0 ≤ visible)

-- a run of live cells that starts at a cell ends at this one: it is not live, or it is where the search was to end
abbrev pub RunEnd : List ℕ → ℕ → ℕ → ℕ → ℕ → Type 0
RunEnd h visible from end r = ((from ≤ r) × (r ≤ end)) × (All (Live h visible) from r × (r < end → (get_or h r 0 ≤ 65535) × (Live h visible r → ⊥)))

-- the cell is used
abbrev pub Used : List ℕ → ℕ → Type 0
Used h c = get_or h c 0 ≡ 0 → ⊥

-- the page of the entry that a cell names
abbrev pub page_named : List ℕ → List ℕ → ℕ → ℕ
page_named h pages c = get_or pages (get_or h c 0 - 1) 0

-- that entry is another page's
abbrev pub Other : List ℕ → List ℕ → ℕ → ℕ → Type 0
Other h pages page c = page_named h pages c ≡ page → ⊥

-- the last entry of the page that one of n cells from a cell on names, or what was met before
unfoldable pub met_in : List ℕ → List ℕ → ℕ → ℕ → ℕ → Option ℕ → Option ℕ
met_in h pages page from zero before = before
met_in h pages page from (suc n) before = cond (eqb (page_named h pages (from + n)) page) (Some (get_or h (from + n) 0 - 1)) (met_in h pages page from n before)

-- the entry that a cell's number names
abbrev pub entry_named : ℕ → Option ℕ
entry_named zero = None
entry_named (suc i) = Some i

-- the near cells from a home on are within the block
abbrev pub NearFit : ℕ → Type 0
NearFit home = home + 24 ≤ block_cells

-- a probe of the near cells has ended with the whole probe's answer and the cells that it looks at, or there are further ones
abbrev pub Answers : Option ℕ → ℕ → Option Probed → Type 0
Answers whole cells (Some probed) = (probed.found ≡ whole) × (probed.cells ≡ cells)
Answers whole cells None = Unit
