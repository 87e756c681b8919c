-- What holds of every store of a call: of its list of stores, so of every first part of that list too, and not of the memory that they leave. Assumes nothing.
use mathlib.Core.Path.{◌≡◌, refl}
use mathlib.Core.Bool.{Bool, true, false, cond}
use mathlib.Core.List.{List, [], ◌∷◌, ◌++◌}
use Prim.Native.Nat.{ℕ, zero, suc}
use lib.ListN.{take}
use Rattle.wal_types.specs.Memory.{Memory, Process, Store, put}
use Rattle.wal_types.specs.Store.{apply, Piece, when, ◌then◌}
use Rattle.wal_types.specs.Refusal.{Test, lowest}
use Rattle.wal_types.specs.Call.{Call, Outcome, accepted_or, unless}

-- The call only reads: it makes no store, and leaves its process as it was.
abbrev pub Reads : Call → Type 0
Reads call = (m : Memory) (p : Process) → ((call m p).stores ≡ []) × ((call m p).process ≡ p)

reads_accepted : (n : ℕ) (p : Process) (o : Outcome) → (o.stores ≡ []) × (o.process ≡ p) → ((accepted_or n p o).stores ≡ []) × ((accepted_or n p o).process ≡ p)
reads_accepted zero p o e = e
reads_accepted (suc n) p o e = (refl, refl)

pub reads_unless : (tests : Memory → Process → List Test) (call : Call) → Reads call → Reads (unless tests call)
reads_unless tests call e m p = reads_accepted (lowest (tests m p)) p (call m p) (e m p)

module _ (P : Store → Type 0) where
  -- of every store of a list, of a piece on any memory, and of a call
  abbrev pub Every : List Store → Type 0
  Every [] = Unit {0}
  Every (s ∷ rest) = P s × Every rest

  abbrev pub EveryOf : Piece → Type 0
  EveryOf piece = (m : Memory) → Every (piece m)

  abbrev pub EveryOfCall : Call → Type 0
  EveryOfCall call = (m : Memory) (p : Process) → Every (call m p).stores

  -- pieces
  pub every_append : (a b : List Store) → Every a → Every b → Every (a ++ b)
  every_append [] b x y = y
  every_append (s ∷ a) b x y = (x.0, every_append a b x.1 y)

  pub every_then : (p q : Piece) → EveryOf p → EveryOf q → EveryOf (p then q)
  every_then p q x y m = every_append (p m) (q (apply (p m) m)) (x m) (y (apply (p m) m))

  pub every_when : (b : Bool) (p : Piece) → EveryOf p → EveryOf (when b p)
  every_when true p x = x
  every_when false p x = λ m. tt

  -- calls
  pub every_cond : (b : Bool) (f g : Outcome) → Every f.stores → Every g.stores → Every (cond b f g).stores
  every_cond true f g x y = x
  every_cond false f g x y = y

  pub every_cond_of : (b : Bool) (f g : Process → Outcome) (p : Process) → Every (f p).stores → Every (g p).stores → Every (cond b f g p).stores
  every_cond_of true f g p x y = x
  every_cond_of false f g p x y = y

  every_accepted : (n : ℕ) (p : Process) (o : Outcome) → Every o.stores → Every (accepted_or n p o).stores
  every_accepted zero p o x = x
  every_accepted (suc n) p o x = tt

  pub every_unless_here : (tests : Memory → Process → List Test) (call : Call) (m : Memory) (p : Process) → Every (call m p).stores → Every (unless tests call m p).stores
  every_unless_here tests call m p x = every_accepted (lowest (tests m p)) p (call m p) x

  pub every_unless : (tests : Memory → Process → List Test) (call : Call) → EveryOfCall call → EveryOfCall (unless tests call)
  every_unless tests call x m p = every_unless_here tests call m p (x m p)

  -- a call that only reads
  pub every_of_reads : (call : Call) → Reads call → EveryOfCall call
  every_of_reads call e m p = rw (e m p).0 tt

  -- the first k stores of a list
  pub every_take : (k : ℕ) (stores : List Store) → Every stores → Every (take k stores)
  every_take zero stores x = tt
  every_take (suc k) [] x = tt
  every_take (suc k) (s ∷ rest) x = (x.0, every_take k rest x.1)

  -- What such a store leaves as it was, a list of them leaves as it was.
  module _ (Same : Memory → Memory → Type 0) (itself : (m : Memory) → Same m m) (twice : (m m' m'' : Memory) → Same m m' → Same m' m'' → Same m m'')
      (by_one : (s : Store) (m : Memory) → P s → Same m (put s m)) where
    pub by_every : (stores : List Store) (m : Memory) → Every stores → Same m (apply stores m)
    by_every [] m x = itself m
    by_every (s ∷ rest) m x = twice m (put s m) (apply rest (put s m)) (by_one s m x.0) (by_every rest (put s m) x.1)
