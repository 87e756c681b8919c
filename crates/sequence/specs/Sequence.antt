-- Sequences of calls by any processes, from fresh memory (document 01, "Sequence"). Each step is the definition that the call's contract cites. Assumes nothing.
use Rattle.std.specs.Prelude.{Option, Bool, cond, List, [], ◌∷◌, ℕ, eqb}
use Rattle.wal_types.specs.declared.SharedWalOwnershipMode.{SharedWalOwnershipMode}
use Rattle.wal_types.specs.Memory.{Memory, Process}
use Rattle.wal_types.specs.Call.{Call, Answer, after}
use Rattle.wal_types.specs.Fresh.{Fresh, FreshProcess}
use Rattle.header_locks.specs.declared.Lock.{Lock}
use Rattle.header_publish.specs.Publish.{publish_commit, publish_backfill, bump_checkpoint_seq, bump_checkpoint_epoch}
use Rattle.header_locks.specs.Locks.{try_acquire, release}
use Rattle.index_record.specs.Record.{record_frame}
use Rattle.index_record.specs.Rollback.{rollback_frames}
use Rattle.index_find.specs.Find.{find_frame}
use Rattle.list_latest.specs.Latest.{iter_latest_frames}
use Rattle.index_scan.specs.Between.{frame_between}
use Rattle.index_scan.specs.Nearest.{nearest_frame}
use Rattle.reader_register.specs.Register.{register_reader}
use Rattle.reader_moves.specs.Update.{update_reader, unregister_reader}
use Rattle.reader_floor.specs.Floor.{min_active_reader_frame, has_active_db_file_reader}
use Rattle.reader_limit.specs.Limit.{copy_back_limit}
use Rattle.reader_shared.specs.Shared.{register_reader_for_snapshot, unregister_reader_for_snapshot}

-- The settings that every call of a sequence is given, good or bad.
pub record Settings : Type 0 where
  pub capacity : ℕ
  pub max_blocks : ℕ
  pub slots : ℕ
  pub mode : SharedWalOwnershipMode

-- The calls, in families by what a call may change, with what each is given besides settings and memory: cards, growth answers
-- and the lengths of output lists are the host's; a search's choice is nobody's, and may be any. Each family is followed by what
-- its calls mean.

-- Calls that only look: they change nothing.
pub data LookOp : Type 0 where
  find_op : (page low high : ℕ) (w : Option ℕ) → LookOp
  list_op : (low high room_pages room_frames : ℕ) → LookOp
  between_op : (page low high choice : ℕ) → LookOp
  nearest_op : (page to : ℕ) → LookOp

abbrev pub look : Settings → LookOp → Call
look s (find_op page low high w) = find_frame s.capacity s.max_blocks page low high w
look s (list_op low high room_pages room_frames) = iter_latest_frames s.capacity s.max_blocks low high room_pages room_frames
look s (between_op page low high choice) = frame_between s.capacity s.max_blocks page low high choice
look s (nearest_op page to) = nearest_frame s.capacity s.max_blocks page to

-- Calls on the index.
pub data IndexOp : Type 0 where
  record_op : (page frame : ℕ) (grow : Bool) → IndexOp
  rollback_op : (bound : ℕ) → IndexOp

abbrev pub on_index : Settings → IndexOp → Call
on_index s (record_op page frame grow) = record_frame s.capacity s.max_blocks page frame grow
on_index s (rollback_op bound) = rollback_frames s.capacity s.max_blocks bound

-- Calls on header cells that are neither the index's nor the published frame: the two locks, the other counters.
pub data HeaderOp : Type 0 where
  acquire_op : (lock : Lock) (owner byte : ℕ) → HeaderOp
  unlock_op : (lock : Lock) (owner : ℕ) → HeaderOp
  backfill_op : (n : ℕ) → HeaderOp
  seq_op epoch_op : HeaderOp

abbrev pub on_header : Settings → HeaderOp → Call
on_header s (acquire_op lock owner byte) = try_acquire lock owner byte
on_header s (unlock_op lock owner) = release lock s.mode owner
on_header s (backfill_op n) = publish_backfill n
on_header s seq_op = bump_checkpoint_seq
on_header s epoch_op = bump_checkpoint_epoch

-- Calls that look at every slot, and reclaim those whose process is gone.
pub data ProbeOp : Type 0 where
  floor_op limit_op db_reader_op : (bytes : List ℕ) → ProbeOp

abbrev pub probe : Settings → ProbeOp → Call
probe s (floor_op bytes) = min_active_reader_frame s.slots s.mode bytes
probe s (limit_op bytes) = copy_back_limit s.slots s.mode bytes
probe s (db_reader_op bytes) = has_active_db_file_reader s.slots s.mode bytes

-- Calls on a slot, and on their process's own cell of it.
pub data SlotOp : Type 0 where
  register_op : (owner mark : ℕ) (bytes : List ℕ) → SlotOp
  move_op : (slot owner mark : ℕ) → SlotOp
  release_op : (slot owner : ℕ) → SlotOp

abbrev pub on_slot : Settings → SlotOp → Call
on_slot s (register_op owner mark bytes) = register_reader s.slots s.mode owner mark bytes
on_slot s (move_op slot owner mark) = update_reader s.slots slot owner mark
on_slot s (release_op slot owner) = unregister_reader s.slots s.mode slot owner

-- Calls on their process's registry too (register_db_file_reader is a share_op at mark 0).
pub data SharedOp : Type 0 where
  share_op : (owner mark : ℕ) (bytes : List ℕ) → SharedOp
  unshare_op : (mark slot owner : ℕ) → SharedOp

abbrev pub on_registry : Settings → SharedOp → Call
on_registry s (share_op owner mark bytes) = register_reader_for_snapshot s.slots s.mode owner mark bytes
on_registry s (unshare_op mark slot owner) = unregister_reader_for_snapshot s.slots s.mode mark slot owner

-- All calls. publish_commit is a family of its own: it alone raises the published frame.
pub data Op : Type 0 where
  look_op : LookOp → Op
  index_op : IndexOp → Op
  commit_op : (frame c1 c2 count : ℕ) → Op
  header_op : HeaderOp → Op
  probe_op : ProbeOp → Op
  slot_op : SlotOp → Op
  shared_op : SharedOp → Op

abbrev pub perform : Settings → Op → Call
perform s (look_op o) = look s o
perform s (index_op o) = on_index s o
perform s (commit_op frame c1 c2 count) = publish_commit frame c1 c2 count
perform s (header_op o) = on_header s o
perform s (probe_op o) = probe s o
perform s (slot_op o) = on_slot s o
perform s (shared_op o) = on_registry s o

-- The shared memory, and each process's own cells and registry, by the process's number.
pub record World : Type 0 where
  pub memory : Memory
  pub processes : ℕ → Process

-- A call by a process.
pub record Event : Type 0 where
  pub who : ℕ
  pub op : Op

abbrev pub by : ℕ → Op → Event
by who op = record { who = who; op = op }

-- what the call answers
abbrev pub answer_of : Settings → Event → World → Answer
answer_of s e w = (after (perform s e.op) w.memory (w.processes e.who)).answer

-- the world that it leaves: its memory, and its own process; every other process stays
abbrev pub next : Settings → Event → World → World
next s e w =
    record {
      memory = (after (perform s e.op) w.memory (w.processes e.who)).memory;
      processes = λ i. cond (eqb i e.who) (after (perform s e.op) w.memory (w.processes e.who)).process (w.processes i);
    }

-- the world after a list of calls, the first of the list first
unfoldable pub run : Settings → List Event → World → World
run s [] w = w
run s (e ∷ rest) w = run s rest (next s e w)

-- Fresh: the shared memory, with the starting blocks in use, and every process. Memory may be short or longer than asked.
pub record FreshWorld (s : Settings) (start : ℕ) (w : World) : Type 0 where
  pub memory_fresh : Fresh s.max_blocks start s.slots w.memory
  pub processes_fresh : (i : ℕ) → FreshProcess s.slots (w.processes i)

-- a property of each call of a list, in the world in which it is made
unfoldable pub Throughout : (Event → World → Type 0) → Settings → List Event → World → Type 0
Throughout P s [] w = Unit {0}
Throughout P s (e ∷ rest) w = P e w × Throughout P s rest (next s e w)
