-- A hold from the call that begins it to the call now: the index stands by its book and is seen up to the mark as it was, and the
-- hold's slot stands. One induction along the calls, since what a call does to the index may rest on the slot. Assumes nothing.
use mathlib.Core.Path.{ap}
use mathlib.Core.List.{List, [], ◌∷◌, ◌++◌}
use Prim.Native.Nat.{ℕ, ◌≤◌}
use native.Mathlib.Omega.{arith}
use Rattle.wal_types.specs.Call.{Pair}
use Rattle.index_grown.specs.Entries.{up_to}
use Rattle.sequence.specs.Sequence.{Settings, on_slot, on_registry, register_op, share_op, World, Event, answer_of, next, run, Throughout}
use Rattle.sequence.specs.Book.{Book, empty_book, entered}
use Rattle.sequence.specs.Hold.{holders_next, Kind, direct, shared, Begins, begins_direct, begins_shared, Lasts, KeepsAbove, LeavesSlot}
use Rattle.sequence.specs.Statement.{at_begin, at_hold, at_now, book, Premises}
use Rattle.sequence.proofs.IndexAside.{untouched_by, slot_beside, shared_beside}
use Rattle.sequence.proofs.IndexStands.{Stands, fresh_stands, next_stands, run_stands}
use Rattle.sequence.proofs.IndexSeen.{Seen, Keeps, untouched_keeps, still_seen, AtMark, at_mark, next_keeps}
use Rattle.sequence.proofs.ReadersHold.{Hold, hold_standing, GoesOn, LastsOn, goes_on, hold_event, hold_begins, Pinned}

-- A hold of slot i at mark x by process `who`, where the book had the pairs es when it began: both halves, in a world whose book
-- is b, with c holders.
record InForce (s : Settings) (kind : Kind) (who i x : ℕ) (es : List Pair) (w : World) (b : Book) (c : ℕ) : Type 0 where
  by_book : Stands s w.memory b
  seen : Seen x es w.memory
  hold : Hold kind s.slots i x c w.memory (w.processes who)

-- What has come of it when the call now is made.
pub record Reached (s : Settings) (who i x : ℕ) (es : List Pair) (now : Event) (w : World) : Type 0 where
  pub now_book : Book
  pub by_book : Stands s w.memory now_book
  pub seen : Seen x es w.memory
  pub pinned : Pinned s who i x now w

module _ (s : Settings) (kind : Kind) (who i x : ℕ) (some : 1 ≤ x) (es : List Pair) (at : AtMark x es) where
  -- the hold pins its mark at the next call
  pins : (e : Event) (w : World) (b : Book) (c : ℕ) → LeavesSlot s who i e w → InForce s kind who i x es w b c → Pinned s who i x e w
  pins e w b c left f = record { standing = hold_standing kind s.slots i x c w.memory (w.processes who) f.hold; left_alone = left }

  -- EACH CALL during the hold: the index's half has the slot's
  next_in_force : (e : Event) (w : World) (b : Book) (c : ℕ) → GoesOn kind s who i x e w c → KeepsAbove s x e w → LeavesSlot s who i e w → InForce s kind who i x es w b c
      → InForce s kind who i x es (next s e w) (entered e.op (answer_of s e w) b) (holders_next who x e (answer_of s e w) c)
  next_in_force e w b c goes above left f =
      record {
        by_book = next_stands s e w b f.by_book;
        seen = still_seen x es w.memory (next s e w).memory f.seen (next_keeps s x some es at who i e w b f.by_book f.seen (pins e w b c left f) above);
        hold = hold_event s e w who kind i x c goes left f.hold;
      }

  -- EVERY SEQUENCE of calls during the hold
  run_in_force : (now : Event) (events : List Event) (w : World) (b : Book) (c : ℕ) → LastsOn kind s who i x events w c → Throughout (KeepsAbove s x) s events w → Throughout (LeavesSlot s who i) s (events ++ (now ∷ [])) w
      → InForce s kind who i x es w b c → Reached s who i x es now (run s events w)
  unfolding run Throughout
  run_in_force now [] w b c lasts above left f = record { now_book = b; by_book = f.by_book; seen = f.seen; pinned = pins now w b c left.0 f }
  run_in_force now (e ∷ rest) w b c lasts above left f =
      let goes = goes_on kind s who i x e rest w c lasts in
      run_in_force now rest (next s e w) _ _ goes.1 above.1 left.1 (next_in_force e w b c goes.0 above.0 left.0 f)

-- the call that begins a hold leaves the index alone
begin_keeps : (s : Settings) (mark : ℕ) (w : World) (e : Event) {holders i m : ℕ} {kind : Kind} → Begins s w holders e kind i m → Keeps mark w.memory (next s e w).memory
begin_keeps s mark w e (begins_direct {who} {m = m} {owner = owner} {bytes = bytes} a) = untouched_keeps mark w.memory _ (untouched_by (on_slot s (register_op owner m bytes)) (slot_beside s (register_op owner m bytes)) w.memory (w.processes who))
begin_keeps s mark w e (begins_shared {who} {m = m} {owner = owner} {bytes = bytes} a z) = untouched_keeps mark w.memory _ (untouched_by (on_registry s (share_op owner m bytes)) (shared_beside s (share_op owner m bytes)) w.memory (w.processes who))

pub lasts_on : (kind : Kind) (s : Settings) (who i x : ℕ) (events : List Event) (w : World) → Lasts kind s who i x events w → LastsOn kind s who i x events w 1
lasts_on direct s who i x events w f = f
lasts_on shared s who i x events w f = f

-- Under the premises of demand 3.
module _ (s : Settings) (start : ℕ) (fresh : World) (before : List Event) (begin : Event) (during : List Event) (now : Event) (kind : Kind) (i m : ℕ) (given : Premises s start fresh before begin during now kind i m) where
  abbrev the_book : Book
  the_book = book s start fresh before begin during now kind i m

  abbrev begun : World
  begun = at_begin s start fresh before begin during now kind i m

  abbrev held : World
  held = at_hold s start fresh before begin during now kind i m

  -- when the hold begins, the index stands by the book
  begin_stands : Stands s begun.memory the_book
  begin_stands = run_stands s before fresh empty_book (fresh_stands s start fresh given.from_fresh)

  begin_seen : Seen m the_book.pairs begun.memory
  begin_seen = record { same_view = ap (up_to m) begin_stands.pairs_by_book; mark_published = omega (arith, begin_stands.published_by_book, given.is_published) }

  in_force : InForce s kind begin.who i m the_book.pairs held (entered begin.op (answer_of s begin begun) the_book) 1
  in_force =
      record {
        by_book = next_stands s begin begun the_book begin_stands;
        seen = still_seen m the_book.pairs begun.memory held.memory begin_seen (begin_keeps s m begun begin given.begins);
        hold = hold_begins s start fresh before begin kind i m given.from_fresh given.begins;
      }

  pub reached : Reached s begin.who i m the_book.pairs now (at_now s start fresh before begin during now kind i m)
  reached =
      run_in_force s kind begin.who i m given.at_least_one the_book.pairs (at_mark given.in_index) now during held _ 1
      (lasts_on kind s begin.who i m during held given.lasts) given.no_rollback_below given.slot_left in_force
