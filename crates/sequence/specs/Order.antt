-- The order of refusals (document 01: "The lowest number that applies to the call is given"): every call's tests stand by rising number, and it is refused by them alone. Assumes nothing.
use Rattle.std.specs.Prelude.{◌≡◌, true, List, []}
use Rattle.wal_types.specs.Memory.{Memory, Process}
use Rattle.wal_types.specs.Refusal.{Test, lowest, rising}
use Rattle.wal_types.specs.Call.{if_refused}
use Rattle.header_locks.specs.Locks.{local_owner_of, acquire_tests, release_tests as unlock_tests}
use Rattle.index_find.specs.Index.{index_tests, entries_tests}
use Rattle.index_record.specs.Record.{record_tests}
use Rattle.list_latest.specs.Latest.{list_tests}
use Rattle.reader_register.specs.Register.{register_tests}
use Rattle.reader_moves.specs.Update.{update_tests, release_tests}
use Rattle.reader_floor.specs.Floor.{probe_tests, db_file_reader_of}
use Rattle.reader_probe.specs.Live.{looked_at}
use Rattle.reader_shared.specs.Shared.{share_tests, unshare_tests}
use Rattle.sequence.specs.Sequence.{Settings, LookOp, IndexOp, HeaderOp, ProbeOp, SlotOp, SharedOp, Op, perform, find_op, list_op, between_op, nearest_op, record_op, rollback_op, acquire_op, unlock_op, backfill_op, seq_op, epoch_op, floor_op, limit_op, db_reader_op, register_op, move_op, release_op, share_op, unshare_op, look_op, index_op, commit_op, header_op, probe_op, slot_op, shared_op}

-- Each call's list of tests, by families. Publishes and bumps are never refused.
abbrev pub look_tests : Settings → LookOp → Memory → Process → List Test
look_tests s (find_op page low high w) m p = index_tests s.capacity s.max_blocks m
look_tests s (list_op low high room_pages room_frames) m p = list_tests s.capacity s.max_blocks low high room_pages room_frames m
look_tests s (between_op page low high choice) m p = entries_tests s.capacity s.max_blocks m
look_tests s (nearest_op page to) m p = entries_tests s.capacity s.max_blocks m

abbrev pub on_index_tests : Settings → IndexOp → Memory → Process → List Test
on_index_tests s (record_op page frame grow) m p = record_tests s.capacity s.max_blocks page frame grow m
on_index_tests s (rollback_op bound) m p = index_tests s.capacity s.max_blocks m

abbrev pub header_tests : Settings → HeaderOp → Memory → Process → List Test
header_tests s (acquire_op lock owner byte) m p = acquire_tests owner byte
header_tests s (unlock_op lock owner) m p = unlock_tests s.mode (local_owner_of lock p) owner
header_tests s (backfill_op n) m p = []
header_tests s seq_op m p = []
header_tests s epoch_op m p = []

abbrev pub on_probe_tests : Settings → ProbeOp → Memory → Process → List Test
on_probe_tests s (floor_op bytes) m p = probe_tests s.slots s.mode bytes s.slots m p
on_probe_tests s (limit_op bytes) m p = probe_tests s.slots s.mode bytes s.slots m p
on_probe_tests s (db_reader_op bytes) m p = probe_tests s.slots s.mode bytes (looked_at s.slots (db_file_reader_of s.slots s.mode bytes m p)) m p

abbrev pub slot_tests : Settings → SlotOp → Memory → Process → List Test
slot_tests s (register_op owner mark bytes) m p = register_tests s.slots owner mark bytes m p
slot_tests s (move_op slot owner mark) m p = update_tests s.slots slot owner mark m p
slot_tests s (release_op slot owner) m p = release_tests s.slots s.mode slot owner m p

abbrev pub shared_tests : Settings → SharedOp → Memory → Process → List Test
shared_tests s (share_op owner mark bytes) m p = share_tests s.slots s.mode owner mark bytes m p
shared_tests s (unshare_op mark slot owner) m p = unshare_tests s.slots s.mode mark slot owner m p

abbrev pub tests_of : Settings → Op → Memory → Process → List Test
tests_of s (look_op o) m p = look_tests s o m p
tests_of s (index_op o) m p = on_index_tests s o m p
tests_of s (commit_op frame c1 c2 count) m p = []
tests_of s (header_op o) m p = header_tests s o m p
tests_of s (probe_op o) m p = on_probe_tests s o m p
tests_of s (slot_op o) m p = slot_tests s o m p
tests_of s (shared_op o) m p = shared_tests s o m p

-- They rise, and the call's refusal is the first that applies: 0, which is no refusal's number, where none does.
pub record RefusedInOrder (s : Settings) (op : Op) (m : Memory) (p : Process) : Type 0 where
  pub rise : rising (tests_of s op m p) ≡ true
  pub number : if_refused (λ n. n) 0 (perform s op m p).answer ≡ lowest (tests_of s op m p)

-- Of every call, on any memory and by any process.
abbrev pub RefusalsInOrder : Type 0
RefusalsInOrder = (s : Settings) (op : Op) (m : Memory) (p : Process) → RefusedInOrder s op m p
