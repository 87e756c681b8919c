-- The paper's lists, after the records (7, 1), (8,199, 2) and (7, 3). Assumes nothing.
use mathlib.Core.Path.{◌≡◌, refl}
use mathlib.Core.List.{List, [], ◌∷◌, map}
use Prim.Native.Nat.{ℕ}
use lib.ListN.{get_or}
use Rattle.wal_types.specs.Call.{Pair, pair}
use Rattle.index_hash.specs.Home.{home, next_cell}
use Rattle.index_hash.specs.Block.{cleared, empty_from, empty_cell, inserted, built}
use Rattle.index_find.specs.Index.{block_cells_of}
use Rattle.index_find.specs.Find.{visible_from, visible}
use Rattle.list_gather.specs.Named.{has_cell, named}
use Rattle.list_choose.specs.Chosen.{in_bounds}
use Rattle.list_latest.specs.Latest.{put_entry, latest}

-- the index's pages, frames and hash cells
unfoldable pub three_pages : List ℕ
three_pages = 7 ∷ 8199 ∷ 7 ∷ []

unfoldable pub three_frames : List ℕ
three_frames = 1 ∷ 2 ∷ 3 ∷ []

-- the pairs that a list from low to high gives
unfoldable pub list_of_three : ℕ → ℕ → List Pair
list_of_three low high =
    map (λ n. pair (get_or three_pages n 0) (get_or three_frames n 0))
    (in_bounds three_frames low high (latest three_pages (built three_pages 3) (visible three_frames 3 high)))

pub list_2_2 : list_of_three 2 2 ≡ pair 8199 2 ∷ []
unfolding list_of_three three_pages three_frames home next_cell cleared empty_from empty_cell inserted built block_cells_of visible_from visible has_cell named put_entry latest in_bounds
list_2_2 = refl

pub list_1_3 : list_of_three 1 3 ≡ pair 7 3 ∷ pair 8199 2 ∷ []
unfolding list_of_three three_pages three_frames home next_cell cleared empty_from empty_cell inserted built block_cells_of visible_from visible has_cell named put_entry latest in_bounds
list_1_3 = refl

pub list_3_2 : list_of_three 3 2 ≡ []
unfolding list_of_three three_pages three_frames home next_cell cleared empty_from empty_cell inserted built block_cells_of visible_from visible has_cell named put_entry latest in_bounds
list_3_2 = refl
