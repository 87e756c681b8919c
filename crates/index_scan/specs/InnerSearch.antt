-- What a search gives of its first entries. Assumes nothing.
use Rattle.std.specs.Prelude.{Option, ℕ}
use Rattle.index_scan.specs.declared.search.Search.{Search}
use Rattle.index_scan.specs.InnerScan.{last_among, nearest_among}

-- of the first n entries the last that is of the page and between the bounds
abbrev pub last_between : Search → ℕ → ℕ → ℕ → Option ℕ
last_between s low high n = last_among s.pages.now s.frames.now s.page_id low high n

-- of the first n entries the nearest
abbrev pub nearest : Search → ℕ → ℕ → Option ℕ
nearest s to n = nearest_among s.pages.now s.frames.now s.page_id to n
