-- iter_latest_frames (document 01, "iter_latest_frames"). Assumes nothing.
use Rattle.std.specs.Prelude.{◌||◌, cond, List, [], ◌∷◌, ◌++◌, map, ℕ, zero, suc, eqb, ltb, length, get_or}
use Rattle.wal_types.specs.Memory.{Memory}
use Rattle.wal_types.specs.Refusal.{Test, ◌if◌}
use Rattle.wal_types.specs.declared.refusal.Refusal.TheVariants.{ShortList}
use Rattle.wal_types.specs.Call.{Pair, pair, Call, listed, does, unless}
use Rattle.index_find.specs.Index.{index_tests}
use Rattle.index_find.specs.Find.{visible}
use Rattle.list_gather.specs.Named.{named}
use Rattle.list_choose.specs.Chosen.{in_bounds}

-- entry n put among entries of rising pages, in the place of the one of its own page
unfoldable pub put_entry : List ℕ → ℕ → List ℕ → List ℕ
put_entry pages n [] = n ∷ []
put_entry pages n (t ∷ rest) =
    cond (ltb (get_or pages n 0) (get_or pages t 0)) (n ∷ t ∷ rest)
    (cond (eqb (get_or pages n 0) (get_or pages t 0)) (n ∷ rest) (t ∷ put_entry pages n rest))

-- each page's latest entry among the first n, of those that the hash names, by rising page
unfoldable pub latest : List ℕ → List ℕ → ℕ → List ℕ
latest pages hash zero = []
latest pages hash (suc n) = cond (named hash n) (put_entry pages n (latest pages hash n)) (latest pages hash n)

-- the entries that are listed: each page's latest with frame ≤ max, if its frame is ≥ min
abbrev pub listed_entries : ℕ → ℕ → Memory → List ℕ
listed_entries low high m =
    in_bounds m.frames low high (latest m.pages m.hash (visible m.frames m.header.frame_index_len high))

-- the pairs of these entries
abbrev pub pairs_of : Memory → List ℕ → List Pair
pairs_of m = map (λ n. pair (get_or m.pages n 0) (get_or m.frames n 0))

-- Refusal 5: fewer output cells, of pages or of frames, than pairs.
abbrev pub list_tests : ℕ → ℕ → ℕ → ℕ → ℕ → ℕ → Memory → List Test
list_tests capacity b low high room_pages room_frames m =
    index_tests capacity b m
    ++ ((ShortList if (ltb room_pages (length (listed_entries low high m)) || ltb room_frames (length (listed_entries low high m)))) ∷ [])

unfoldable pub iter_latest_frames : ℕ → ℕ → ℕ → ℕ → ℕ → ℕ → Call
iter_latest_frames capacity b low high room_pages room_frames =
    unless (λ m p. list_tests capacity b low high room_pages room_frames m)
    (λ m. does (listed (pairs_of m (listed_entries low high m))) (λ z. []) m)
