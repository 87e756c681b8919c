-- What a lookup in one block is for: the page's latest entry. Assumes nothing.
use Rattle.std.specs.Prelude.{Option, Some, None, cond, List, ℕ, zero, suc, eqb, get_or}

-- the greatest place below v with that page
unfoldable pub latest_below : List ℕ → ℕ → ℕ → Option ℕ
latest_below pages page zero = None
latest_below pages page (suc v) = cond (eqb (get_or pages v 0) page) (Some v) (latest_below pages page v)
