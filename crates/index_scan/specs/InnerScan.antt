-- The searches, part of the entries by part. Assumes nothing.
use Rattle.std.specs.Prelude.{◌≡◌, Option, List, ℕ, get_or}
use Rattle.index_grown.specs.Entries.{entries_of}
use Rattle.index_scan.specs.Between.{frame_chosen}
use Rattle.index_scan.specs.Nearest.{nearest}

-- entry i is another page's
abbrev pub OtherPage : List ℕ → ℕ → ℕ → Type 0
OtherPage pages page i = get_or pages i 0 ≡ page → ⊥

-- of the first n entries the last that is of the page and between the bounds: the number of entries chooses it
abbrev pub last_among : List ℕ → List ℕ → ℕ → ℕ → ℕ → ℕ → Option ℕ
last_among pages frames page low high n = frame_chosen (entries_of n pages frames) page low high n

-- of the first n entries the nearest
abbrev pub nearest_among : List ℕ → List ℕ → ℕ → ℕ → ℕ → Option ℕ
nearest_among pages frames page to n = nearest (entries_of n pages frames) page to
