-- How the named entries are gathered: from the last down; and the first entry of a page. Assumes nothing.
use Rattle.std.specs.Prelude.{cond, List, [], ◌∷◌, ℕ, zero, suc, take}
use Rattle.list_sort.specs.InnerSorted.{having, page_of}
use Rattle.list_gather.specs.Named.{named}

-- the named ones of the first n entries, from the last down
unfoldable pub down : List ℕ → ℕ → List ℕ
down hash zero = []
down hash (suc n) = cond (named hash n) (n ∷ down hash n) (down hash n)

-- the first entry of a page, if there is one
unfoldable pub head_of : List ℕ → ℕ → List ℕ → List ℕ
head_of pages page l = take 1 (having (page_of pages) page l)
