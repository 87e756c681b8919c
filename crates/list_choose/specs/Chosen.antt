-- The first entry of each page, and those within the bounds. Assumes nothing.
use Rattle.std.specs.Prelude.{cond, List, [], ◌∷◌, ℕ, eqb, get_or}
use Rattle.wal_types.specs.Settings.{within}

-- those of the entries whose frame is from low to high
unfoldable pub in_bounds : List ℕ → ℕ → ℕ → List ℕ → List ℕ
in_bounds frames low high [] = []
in_bounds frames low high (n ∷ rest) =
    cond (within low high (get_or frames n 0)) (n ∷ in_bounds frames low high rest) (in_bounds frames low high rest)

-- those entries whose page is not that of the one before; the first is compared with this page
unfoldable pub firsts_after : List ℕ → ℕ → List ℕ → List ℕ
firsts_after pages page [] = []
firsts_after pages page (e ∷ rest) =
    cond (eqb (get_or pages e 0) page) (firsts_after pages page rest) (e ∷ firsts_after pages (get_or pages e 0) rest)

-- the first of each run of one page
unfoldable pub firsts : List ℕ → List ℕ → List ℕ
firsts pages [] = []
firsts pages (e ∷ rest) = e ∷ firsts_after pages (get_or pages e 0) rest
