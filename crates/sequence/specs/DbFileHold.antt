-- A reader of the database file holds copying back (document 02, Slip 3). Demand 3 speaks of holds at marks above 0; this is the
-- like of a hold at mark 0. Assumes nothing.
use Rattle.std.specs.Prelude.{◌≡◌, List, [], ◌∷◌, ◌++◌, ℕ, ◌≤◌}
use Rattle.wal_types.specs.Call.{value, accepted}
use Rattle.sequence.specs.Sequence.{Settings, limit_op, probe_op, World, Event, answer_of, FreshWorld, Throughout}
use Rattle.sequence.specs.Hold.{holders_after, Kind, Begins, Lasts, LeavesSlot}
use Rattle.sequence.specs.Statement.{at_begin, at_hold, at_now}

-- The calls are cut as in demand 3; slot i is held at mark 0.
module _ (s : Settings) (start : ℕ) (fresh : World) (before : List Event) (begin : Event) (during : List Event) (now : Event) (kind : Kind) (i : ℕ) where
  -- the worlds in which the hold begins, after that, and in which the call now is made
  abbrev pub opening : World
  opening = at_begin s start fresh before begin during now kind i 0

  abbrev pub opened : World
  opened = at_hold s start fresh before begin during now kind i 0

  abbrev pub present : World
  present = at_now s start fresh before begin during now kind i 0

  -- of demand 3's premises those on the hold itself
  pub record FilePremises : Type 0 where
    pub from_fresh : FreshWorld s start fresh
    pub begins : Begins s opening (holders_after s begin.who 0 before fresh 0) begin kind i 0
    pub lasts : Lasts kind s begin.who i 0 during opened
    pub slot_left : Throughout (LeavesSlot s begin.who i) s (during ++ (now ∷ [])) opened

-- While the hold lasts each accepted limit, whichever process asks, is at most the number of frames that are copied then.
unfoldable pub DbFileHoldsBack : Type 0
DbFileHoldsBack =
    (s : Settings) (start : ℕ) (fresh : World) (before : List Event) (begin : Event) (during : List Event) (now : Event) (kind : Kind) (i : ℕ)
    → FilePremises s start fresh before begin during now kind i
    → (bytes : List ℕ) → now.op ≡ probe_op (limit_op bytes) → accepted (answer_of s now (present s start fresh before begin during now kind i))
    → (l : ℕ) × (answer_of s now (present s start fresh before begin during now kind i) ≡ value l) × (l ≤ (present s start fresh before begin during now kind i).memory.header.nbackfills)
