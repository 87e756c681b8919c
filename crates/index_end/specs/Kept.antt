-- How many entries a rollback keeps (document 01, "rollback_frames"). Assumes nothing.
use Rattle.std.specs.Prelude.{cond, List, ℕ, zero, suc, leb, get_or}

-- how many of the first n entries are kept: entries go from the end while the last frame is above the bound
unfoldable pub kept_of : ℕ → List ℕ → ℕ → ℕ
kept_of zero frames bound = 0
kept_of (suc n) frames bound = cond (leb (get_or frames n 0) bound) (suc n) (kept_of n frames bound)
