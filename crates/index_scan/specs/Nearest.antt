-- The nearest frame of a page to a given frame (document 02, Slip 2). Assumes nothing.
use Rattle.std.specs.Prelude.{◌≡◌, Option, Some, None, Bool, ◌&&◌, ◌||◌, cond, ℕ, ◌+◌, ◌-◌, ◌≤◌, eqb, ltb}
use mathlib.Core.List.{List, [], ◌∷◌, Memᴰ}
use Rattle.wal_types.specs.Call.{Pair, pair, Call}
use Rattle.index_scan.specs.Scan.{scan}

-- how far two frames are apart: of the two differences one is 0
abbrev pub distance : ℕ → ℕ → ℕ
distance a b = (a - b) + (b - a)

-- f is nearer to the frame than g, or as near and lower
abbrev pub is_nearer : ℕ → ℕ → ℕ → Bool
is_nearer to f g = ltb (distance to f) (distance to g) || (eqb (distance to f) (distance to g) && ltb f g)

-- the nearer of two frames, where both are there, the lower on a tie
abbrev pub nearer : ℕ → Option ℕ → (Option ℕ) → Option ℕ
nearer to (Some f) (Some g) = cond (is_nearer to f g) (Some f) (Some g)
nearer to (Some f) None = Some f
nearer to None r = r

-- a pair's frame, if it is of this page
abbrev pub frame_of : ℕ → Pair → Option ℕ
frame_of page q = cond (eqb q.page page) (Some q.frame) None

-- The nearest among the pairs of a page, or none.
unfoldable pub nearest : List Pair → ℕ → ℕ → Option ℕ
nearest [] page to = None
nearest (q ∷ rest) page to = nearer to (frame_of page q) (nearest rest page to)

-- the call
unfoldable pub nearest_frame : ℕ → ℕ → ℕ → ℕ → Call
nearest_frame capacity b page to = scan capacity b (λ es. nearest es page to)

-- What it means, by properties: a frame of the page, none nearer, none as near and lower; or the page has none.
pub record IsNearestFrame (es : List Pair) (page to f : ℕ) : Type 0 where
  pub of_page : Memᴰ (pair page f) es
  pub none_nearer : (g : ℕ) → Memᴰ (pair page g) es → distance to f ≤ distance to g
  pub lower_on_tie : (g : ℕ) → Memᴰ (pair page g) es → distance to g ≡ distance to f → f ≤ g

abbrev pub IsNearest : List Pair → ℕ → ℕ → Option ℕ → Type 0
IsNearest es page to (Some f) = IsNearestFrame es page to f
IsNearest es page to None = (g : ℕ) → Memᴰ (pair page g) es → ⊥

-- Of any pairs: the call's frame is the nearest, and nothing else is.
pub record NearestOf (es : List Pair) (page to : ℕ) : Type 0 where
  pub is_nearest : IsNearest es page to (nearest es page to)
  pub nothing_else : (r : Option ℕ) → IsNearest es page to r → r ≡ nearest es page to

abbrev pub NearestDecided : Type 0
NearestDecided = (es : List Pair) (page to : ℕ) → NearestOf es page to
