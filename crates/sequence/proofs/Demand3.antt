-- Demand 3: what is owed of the call now, by how far the hold has reached. Assumes nothing.
use mathlib.Core.Path.{◌≡◌, sym, subst}
use mathlib.Core.Bool.{true}
use mathlib.Core.List.{List}
use mathlib.Core.Logic.{◌⊎◌}
use Prim.Native.Nat.{ℕ, ◌≤◌}
use lib.ListN.{get_or}
use Rattle.std.specs.Prelude.{None}
use Rattle.wal_types.specs.Settings.{unused}
use Rattle.wal_types.specs.Call.{Pair, value, frame_found, listed, accepted, Done, after}
use Rattle.index_find.specs.Find.{lookup_answer}
use Rattle.reader_slots.specs.Slots.{held}
use Rattle.index_grown.specs.Entries.{greatest}
use Rattle.index_grown.specs.Listed.{IsListOf}
use Rattle.index_scan.specs.Between.{frame_chosen}
use Rattle.sequence.specs.Sequence.{Settings, find_op, list_op, between_op, floor_op, limit_op, Op, look_op, probe_op, perform, World, Event, answer_of}
use Rattle.sequence.specs.Hold.{Kind}
use Rattle.sequence.specs.Statement.{at_now, book, Premises, Demand3}
use Rattle.sequence.proofs.IndexAnswers.{find_seen, list_seen, between_seen}
use Rattle.sequence.proofs.ReadersInv.{Standing}
use Rattle.sequence.proofs.ReadersHold.{mark_stays}
use Rattle.sequence.proofs.ReadersFloor.{floor_bound, limit_bound}
use Rattle.sequence.proofs.HoldLasts.{Reached, reached}

module _ (s : Settings) (start : ℕ) (fresh : World) (before : List Event) (begin : Event) (during : List Event) (now : Event) (kind : Kind) (i m : ℕ) (given : Premises s start fresh before begin during now kind i m) where
  abbrev world : World
  world = at_now s start fresh before begin during now kind i m

  abbrev pairs : List Pair
  pairs = (book s start fresh before begin during now kind i m).pairs

  abbrev here : Reached s begin.who i m pairs now world
  here = reached s start fresh before begin during now kind i m given

  -- what the call now comes to, with its op named
  abbrev left : Op → Done
  left op = after (perform s op) world.memory (world.processes now.who)

  -- LOOKUPS, LISTS AND SEARCHES up to m answer by the book as it stood when the hold began
  lookup : (page low high : ℕ) → now.op ≡ look_op (find_op page low high None) → high ≤ m → accepted (answer_of s now world) → answer_of s now world ≡ lookup_answer (greatest pairs page low high)
  lookup page low high e most =
      subst (λ (op : Op). accepted (left op).answer → (left op).answer ≡ lookup_answer (greatest pairs page low high)) (sym e)
      (find_seen s world.memory (world.processes now.who) here.now_book here.by_book m pairs here.seen low high most page)

  listing : (low high room_pages room_frames : ℕ) → now.op ≡ look_op (list_op low high room_pages room_frames) → high ≤ m → accepted (answer_of s now world) → (l : List Pair) × (answer_of s now world ≡ listed l) × IsListOf pairs low high l
  listing low high room_pages room_frames e most =
      subst (λ (op : Op). accepted (left op).answer → (l : List Pair) × ((left op).answer ≡ listed l) × IsListOf pairs low high l) (sym e)
      (list_seen s world.memory (world.processes now.who) here.now_book here.by_book m pairs here.seen low high most room_pages room_frames)

  between : (page low high choice : ℕ) → now.op ≡ look_op (between_op page low high choice) → high ≤ m → accepted (answer_of s now world) → answer_of s now world ≡ lookup_answer (frame_chosen pairs page low high choice)
  between page low high choice e most =
      subst (λ (op : Op). accepted (left op).answer → (left op).answer ≡ lookup_answer (frame_chosen pairs page low high choice)) (sym e)
      (between_seen s world.memory (world.processes now.who) here.now_book here.by_book m pairs here.seen low high most page choice)

  -- FLOORS AND LIMITS are at most m
  abbrev slot : Standing s.slots i m world.memory (world.processes begin.who)
  slot = here.pinned.standing

  abbrev Stays : Op → Type 0
  Stays op = (held (world.processes now.who) i ≡ true) ⊎ (get_or (left op).memory.reader_frames i unused ≡ m)

  floor : (bytes : List ℕ) → now.op ≡ probe_op (floor_op bytes) → accepted (answer_of s now world) → (f : ℕ) × (answer_of s now world ≡ frame_found f) × (f ≤ m)
  floor bytes e =
      subst (λ (op : Op). Stays op → accepted (left op).answer → (f : ℕ) × ((left op).answer ≡ frame_found f) × (f ≤ m)) (sym e)
      (λ stays a. floor_bound s.slots s.mode bytes world.memory (world.processes now.who) i m slot.below slot.marked slot.used slot.owned given.at_least_one a stays)
      (mark_stays here.pinned)

  limit : (bytes : List ℕ) → now.op ≡ probe_op (limit_op bytes) → accepted (answer_of s now world) → (l : ℕ) × (answer_of s now world ≡ value l) × (l ≤ m)
  limit bytes e =
      subst (λ (op : Op). Stays op → accepted (left op).answer → (l : ℕ) × ((left op).answer ≡ value l) × (l ≤ m)) (sym e)
      (λ stays a. limit_bound s.slots s.mode bytes world.memory (world.processes now.who) i m slot.below slot.marked slot.used slot.owned given.at_least_one a stays)
      (mark_stays here.pinned)

-- The theorem.
pub demand_3 : Demand3
unfolding Demand3
demand_3 s start fresh before begin during now kind i m given =
    record {
      lookup_owed = lookup s start fresh before begin during now kind i m given;
      list_owed = listing s start fresh before begin during now kind i m given;
      between_owed = between s start fresh before begin during now kind i m given;
      floor_owed = floor s start fresh before begin during now kind i m given;
      limit_owed = limit s start fresh before begin during now kind i m given;
    }
