-- What a list of the latest frames is: by properties. Assumes nothing.
use Rattle.std.specs.Prelude.{Some, ◌≡◌, ℕ, ◌+◌, ◌≤◌}
use mathlib.Core.List.{List, [], ◌∷◌, Memᴰ}
use Rattle.wal_types.specs.Call.{Pair, pair}
use Rattle.index_grown.specs.Entries.{greatest}

-- the pages rise strictly, from this page on
abbrev pub PagesRise : ℕ → List Pair → Type 0
PagesRise least [] = Unit {0}
PagesRise least (q ∷ rest) = (least ≤ q.page) × PagesRise (q.page + 1) rest

-- The list of these entries from low to high: each page that has a frame within the bounds, and no other, once, with the
-- greatest, by rising page.
pub record IsListOf (es : List Pair) (low high : ℕ) (l : List Pair) : Type 0 where
  pub rises : PagesRise 0 l
  pub only : (page f : ℕ) → Memᴰ (pair page f) l → greatest es page low high ≡ Some f
  pub every : (page f : ℕ) → greatest es page low high ≡ Some f → Memᴰ (pair page f) l
