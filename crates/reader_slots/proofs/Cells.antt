-- Tests of one slot's cells, and cells read from lists. Assumes nothing.
use mathlib.Core.Path.{◌≡◌, refl}
use mathlib.Core.Bool.{Bool, true, false, not, ◌&&◌, ◌||◌}
use mathlib.Core.List.{List, [], ◌∷◌}
use Prim.Native.Nat.{ℕ, zero, suc, ◌<◌}
use native.Mathlib.Omega.{arith}
use lib.ListN.{length, get_or}

-- a cell within a list is the same by any default
pub get_or_any : (l : List ℕ) (i d e : ℕ) → i < length l → get_or l i d ≡ get_or l i e
get_or_any [] i d e h = absurd (omega arith)
get_or_any (x ∷ l) zero d e h = refl
get_or_any (x ∷ l) (suc i) d e h = get_or_any l i d e (omega arith)

-- one part of a conjunction is false
pub and_false : (a : Bool) → (a && false) ≡ false
and_false true = refl
and_false false = refl

pub third_false : (a b d : Bool) → (a && b && false && d) ≡ false
third_false true true d = refl
third_false true false d = refl
third_false false b d = refl

pub last_false : (a b c : Bool) → (a && b && c && false) ≡ false
last_false a b c = and_false (a && b && c)

pub and_true : (a : Bool) → (a && true) ≡ a
and_true true = refl
and_true false = refl

-- a live slot is not dead
pub live_not_dead : (s h g : Bool) → (not s && (h || not g)) ≡ true → (not s && not h && g) ≡ false
live_not_dead true h g e = refl
live_not_dead false true g e = refl
live_not_dead false false false e = refl
live_not_dead false false true e = let z : ◌≡◌ {A = Bool} false true = e in cc
