-- Demand 3, as one statement. Assumes nothing.
use Rattle.std.specs.Prelude.{None, ◌≡◌, List, [], ◌∷◌, ◌++◌, ℕ, ◌≤◌}
use Rattle.wal_types.specs.Call.{Pair, Answer, value, frame_found, listed, accepted}
use Rattle.index_find.specs.Find.{lookup_answer}
use Rattle.index_grown.specs.Entries.{greatest}
use Rattle.index_grown.specs.Listed.{IsListOf}
use Rattle.index_scan.specs.Between.{frame_chosen}
use Rattle.sequence.specs.Sequence.{Settings, find_op, list_op, between_op, floor_op, limit_op, Op, look_op, probe_op, World, Event, answer_of, next, run, FreshWorld, Throughout}
use Rattle.sequence.specs.Book.{Book, empty_book, book_after, InPairs}
use Rattle.sequence.specs.Hold.{holders_after, Kind, Begins, Lasts, KeepsAbove, LeavesSlot}

-- A sequence of calls from a fresh world: those before, the one that begins a hold of slot i at mark m, those during the hold, and
-- one more call now.
module _ (s : Settings) (start : ℕ) (fresh : World) (before : List Event) (begin : Event) (during : List Event) (now : Event) (kind : Kind) (i m : ℕ) where
  -- the world in which the hold begins, the one after that call, and the one in which the call now is made
  abbrev pub at_begin : World
  at_begin = run s before fresh

  abbrev pub at_hold : World
  at_hold = next s begin at_begin

  abbrev pub at_now : World
  at_now = run s during at_hold

  -- the book as it stood when the hold began
  abbrev pub book : Book
  book = book_after s before fresh empty_book

  -- The premises of demand 3, each with its words.
  pub record Premises : Type 0 where
    -- "from fresh memory, whichever process makes each"
    pub from_fresh : FreshWorld s start fresh
    -- "for every hold at mark m in it"
    pub begins : Begins s at_begin (holders_after s begin.who m before fresh 0) begin kind i m
    -- "m is at least 1, in the index and published when the hold begins"
    pub at_least_one : 1 ≤ m
    pub in_index : InPairs m book.pairs
    pub is_published : m ≤ book.published
    -- "during the hold": it is not over before the call now
    pub lasts : Lasts kind s begin.who i m during at_hold
    -- "while the hold lasts, no rollback goes below m"
    pub no_rollback_below : Throughout (KeepsAbove s m) s during at_hold
    -- "and no other process changes its slot"
    pub slot_left : Throughout (LeavesSlot s begin.who i) s (during ++ (now ∷ [])) at_hold

  -- What is owed of the call now, by its answer: "each lookup or list up to m during the hold, accepted and without a watermark,
  -- answers by document 01's book as it stood when the hold began".
  pub record Owed (op : Op) (a : Answer) : Type 0 where
    -- "a lookup gives the greatest indexed frame of the page within the bounds, or none"
    pub lookup_owed : (page low high : ℕ) → op ≡ look_op (find_op page low high None) → high ≤ m → accepted a → a ≡ lookup_answer (greatest book.pairs page low high)
    -- "a list gives each page that has such a frame, and no other, once, with the greatest, by rising page"
    pub list_owed : (low high room_pages room_frames : ℕ) → op ≡ look_op (list_op low high room_pages room_frames) → high ≤ m → accepted a → (l : List Pair) × (a ≡ listed l) × IsListOf book.pairs low high l
    -- a search between two frames up to m, too, gives by the book what its choice gives. Nothing is owed of a nearest frame: one
    -- above m may be nearer.
    pub between_owed : (page low high choice : ℕ) → op ≡ look_op (between_op page low high choice) → high ≤ m → accepted a → a ≡ lookup_answer (frame_chosen book.pairs page low high choice)
    -- "and each floor during the hold, unless refused, exists and is at most m";
    pub floor_owed : (bytes : List ℕ) → op ≡ probe_op (floor_op bytes) → accepted a → (f : ℕ) × (a ≡ frame_found f) × (f ≤ m)
    -- a copy-back limit, which is at most the floor, then is at most m too
    pub limit_owed : (bytes : List ℕ) → op ≡ probe_op (limit_op bytes) → accepted a → (l : ℕ) × (a ≡ value l) × (l ≤ m)

-- Demand 3: under the premises, what is owed is there. One theorem over every sequence of calls, for every hold in it.
unfoldable pub Demand3 : Type 0
Demand3 =
    (s : Settings) (start : ℕ) (fresh : World) (before : List Event) (begin : Event) (during : List Event) (now : Event) (kind : Kind) (i m : ℕ)
    → Premises s start fresh before begin during now kind i m
    → Owed s start fresh before begin during now kind i m now.op (answer_of s now (at_now s start fresh before begin during now kind i m))
