-- A call's change to shared memory is a list of single-cell stores, in order. Assumes nothing.
use Rattle.std.specs.Prelude.{Bool, true, false, List, [], ◌∷◌, ◌++◌}
use Rattle.wal_types.specs.Memory.{Memory, Store, put}

-- the memory after a list of stores, the first of the list first
abbrev pub apply : List Store → Memory → Memory
apply [] m = m
apply (s ∷ rest) m = apply rest (put s m)

-- A piece of a call: its stores, by the memory that it finds.
abbrev pub Piece : Type 0
Piece = Memory → List Store

-- one store
abbrev pub one : Store → Piece
one s m = s ∷ []

-- a piece that is left out unless the test holds
abbrev pub when : Bool → Piece → Piece
when true p = p
when false p = λ m. []

-- one piece after another: the second finds what the first left
infixl 20 ◌then◌
abbrev pub ◌then◌ : Piece → Piece → Piece
◌then◌ p q m = p m ++ q (apply (p m) m)
