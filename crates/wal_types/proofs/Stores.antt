-- Stores in order. Assumes nothing.
use mathlib.Core.Path.{◌≡◌, refl, ◌∙◌, ap}
use mathlib.Core.Bool.{Bool, true, false, true≢false, false≢true}
use mathlib.Core.List.{List, [], ◌∷◌, ◌++◌}
use Rattle.wal_types.specs.Memory.{Memory, Store, put}
use Rattle.wal_types.specs.Store.{apply, Piece, when, ◌then◌}

-- the stores of two lists, one after the other
pub apply_append : (a b : List Store) (m : Memory) → apply (a ++ b) m ≡ apply b (apply a m)
apply_append [] b m = refl
apply_append (s ∷ a) b m = apply_append a b (put s m)

-- the second of two pieces is applied to what the first left
pub apply_then : (p q : Piece) (m : Memory) → apply ((p then q) m) m ≡ apply (q (apply (p m) m)) (apply (p m) m)
apply_then p q m = apply_append (p m) (q (apply (p m) m)) m

-- the same, where what each piece leaves is known
pub then_leaves : (p q : Piece) (m : Memory) {m1 m2 : Memory} → apply (p m) m ≡ m1 → apply (q m1) m1 ≡ m2 → apply ((p then q) m) m ≡ m2
then_leaves p q m e f = apply_then p q m ∙ (ap (λ (x : Memory). apply (q x) x) e ∙ f)

-- a conditional piece, by its test
pub when_leaves : (b : Bool) (p : Piece) (m : Memory) {m1 : Memory} → b ≡ true → apply (p m) m ≡ m1 → apply (when b p m) m ≡ m1
when_leaves true p m e f = f
when_leaves false p m e f = let z : ◌≡◌ {A = Bool} false true = e in absurd (false≢true z)

pub when_not : (b : Bool) (p : Piece) (m : Memory) → b ≡ false → apply (when b p m) m ≡ m
when_not false p m e = refl
when_not true p m e = let z : ◌≡◌ {A = Bool} true false = e in absurd (true≢false z)
