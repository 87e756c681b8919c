-- A reader of the database file holds copying back: its slot stands while the hold lasts, and so the limit meets a live mark 0.
-- Assumes nothing.
use mathlib.Core.Path.{◌≡◌, refl, sym, subst}
use mathlib.Core.Logic.{◌⊎◌}
use mathlib.Core.Bool.{true}
use mathlib.Core.List.{List, [], ◌∷◌, ◌++◌}
use Prim.Native.Nat.{ℕ, ◌≤◌}
use lib.ListN.{get_or}
use Rattle.wal_types.specs.Settings.{unused}
use Rattle.wal_types.specs.Call.{Done, after, value, accepted}
use Rattle.reader_slots.specs.Slots.{held}
use Rattle.sequence.specs.Sequence.{Settings, limit_op, Op, probe_op, perform, World, Event, answer_of, next, run, Throughout}
use Rattle.sequence.specs.Hold.{Kind, LeavesSlot}
use Rattle.sequence.specs.DbFileHold.{opened, present, FilePremises, DbFileHoldsBack}
use Rattle.sequence.proofs.ReadersFloor.{limit_copied}
use Rattle.sequence.proofs.ReadersInv.{Standing}
use Rattle.sequence.proofs.ReadersHold.{Hold, hold_standing, LastsOn, goes_on, hold_event, hold_begins, Pinned, mark_stays}
use Rattle.sequence.proofs.HoldLasts.{lasts_on}

-- the slot stands along every sequence of calls during the hold
run_pinned : (s : Settings) (kind : Kind) (who i x : ℕ) (now : Event) (events : List Event) (w : World) (c : ℕ) → LastsOn kind s who i x events w c → Throughout (LeavesSlot s who i) s (events ++ (now ∷ [])) w
    → Hold kind s.slots i x c w.memory (w.processes who) → Pinned s who i x now (run s events w)
unfolding run Throughout
run_pinned s kind who i x now [] w c lasts left h = record { standing = hold_standing kind s.slots i x c w.memory (w.processes who) h; left_alone = left.0 }
run_pinned s kind who i x now (e ∷ rest) w c lasts left h =
    let goes = goes_on kind s who i x e rest w c lasts in
    run_pinned s kind who i x now rest (next s e w) _ goes.1 left.1 (hold_event s e w who kind i x c goes.0 left.0 h)

module _ (s : Settings) (start : ℕ) (fresh : World) (before : List Event) (begin : Event) (during : List Event) (now : Event) (kind : Kind) (i : ℕ) (given : FilePremises s start fresh before begin during now kind i) where
  abbrev world : World
  world = present s start fresh before begin during now kind i

  pinned : Pinned s begin.who i 0 now world
  pinned =
      run_pinned s kind begin.who i 0 now during (opened s start fresh before begin during now kind i) 1
      (lasts_on kind s begin.who i 0 during (opened s start fresh before begin during now kind i) given.lasts) given.slot_left
      (hold_begins s start fresh before begin kind i 0 given.from_fresh given.begins)

  abbrev slot : Standing s.slots i 0 world.memory (world.processes begin.who)
  slot = pinned.standing

  abbrev left : Op → Done
  left op = after (perform s op) world.memory (world.processes now.who)

  abbrev Stays : Op → Type 0
  Stays op = (held (world.processes now.who) i ≡ true) ⊎ (get_or (left op).memory.reader_frames i unused ≡ 0)

  limit : (bytes : List ℕ) → now.op ≡ probe_op (limit_op bytes) → accepted (answer_of s now world) → (l : ℕ) × (answer_of s now world ≡ value l) × (l ≤ world.memory.header.nbackfills)
  limit bytes e =
      subst (λ (op : Op). Stays op → accepted (left op).answer → (l : ℕ) × ((left op).answer ≡ value l) × (l ≤ world.memory.header.nbackfills)) (sym e)
      (λ stays a. limit_copied s.slots s.mode bytes world.memory (world.processes now.who) i 0 slot.below slot.marked slot.used slot.owned refl a stays)
      (mark_stays pinned)

-- The theorem.
pub db_file_holds_back : DbFileHoldsBack
unfolding DbFileHoldsBack
db_file_holds_back s start fresh before begin during now kind i given = limit s start fresh before begin during now kind i given
