-- The entries of an index as a list of pairs, what a record and a rollback make of them, and a page's greatest frame among them. Assumes nothing.
use Rattle.std.specs.Prelude.{Option, Some, None, ◌&&◌, cond, List, [], ◌∷◌, ◌++◌, ℕ, zero, suc, max, eqb, leb, get_or}
use Rattle.wal_types.specs.Settings.{within}
use Rattle.wal_types.specs.Memory.{Memory}
use Rattle.wal_types.specs.Call.{Pair, pair}
use Rattle.index_end.specs.Place.{resets}

-- the pairs of the first n entries, in order
unfoldable pub entries_of : ℕ → List ℕ → List ℕ → List Pair
entries_of zero pages frames = []
entries_of (suc n) pages frames = entries_of n pages frames ++ (pair (get_or pages n 0) (get_or frames n 0) ∷ [])

-- the entries of an index
abbrev pub entries : Memory → List Pair
entries m = entries_of m.header.frame_index_len m.pages m.frames

-- what a record of this frame finds: no entries where it resets the index
abbrev pub entries_found : ℕ → Memory → List Pair
entries_found frame m = cond (resets frame m.header) [] (entries m)

-- Pairs go from the end while the last frame is above the bound: a pair goes if none behind it stays and its frame is above.
abbrev pub before_kept : ℕ → Pair → List Pair → List Pair
before_kept bound q [] = cond (leb q.frame bound) (q ∷ []) []
before_kept bound q (r ∷ rest) = q ∷ (r ∷ rest)

unfoldable pub taken_off : ℕ → List Pair → List Pair
taken_off bound [] = []
taken_off bound (q ∷ rest) = before_kept bound q (taken_off bound rest)

-- the pairs whose frame is at most the bound
unfoldable pub up_to : ℕ → List Pair → List Pair
up_to bound [] = []
up_to bound (q ∷ rest) = cond (leb q.frame bound) (q ∷ up_to bound rest) (up_to bound rest)

-- the greater of two frames, where both are there
abbrev pub higher : Option ℕ → Option ℕ → Option ℕ
higher (Some f) (Some g) = Some (max f g)
higher (Some f) None = Some f
higher None r = r

-- a pair's frame, if it is of this page and from low to high
abbrev pub frame_in : ℕ → ℕ → ℕ → Pair → Option ℕ
frame_in page low high q = cond (eqb q.page page && within low high q.frame) (Some q.frame) None

-- The greatest frame among the pairs of a page whose frame is from low to high, both included, or none.
unfoldable pub greatest : List Pair → ℕ → ℕ → ℕ → Option ℕ
greatest [] page low high = None
greatest (q ∷ rest) page low high = higher (frame_in page low high q) (greatest rest page low high)
