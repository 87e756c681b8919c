-- Every call's tests stand by rising number: their numbers are literals, and each list is compared by computation. A call that passes its tests is not refused: its answer is another one in every case. Assumes nothing.
use Rattle.std.specs.Prelude.{None, Option, Some}
use mathlib.Core.Path.{◌≡◌, refl}
use mathlib.Core.Bool.{Bool, true, false, cond, ◌&&◌}
use mathlib.Core.List.{List, [], ◌∷◌}
use Prim.Native.Nat.{ℕ, zero, suc}
use lib.Dec.{eqb, ltb}
use lib.ListN.{get_or}
use Rattle.std.specs.Prelude.{Option, Some, None}
use Rattle.wal_types.specs.declared.SharedWalOwnershipMode.{SharedWalOwnershipMode}
use Rattle.wal_types.specs.Memory.{Memory, Process, to_header, no_mark}
use Rattle.wal_types.specs.Call.{Answer, ok, flag, stored, dropped, none, Outcome, does, if_refused, accepted_or}
use Rattle.header_publish.specs.Publish.{publish_commit, publish_backfill, bump_checkpoint_seq, bump_checkpoint_epoch}
use Rattle.header_locks.specs.declared.Lock.{Lock}
use Rattle.header_locks.specs.Locks.{owner_cell, local_owner_of, with_local_owner, acquires, try_acquire, release}
use Rattle.index_find.specs.Find.{visible, upper, lower, blocks_for, find_in, lookup_answer, find_frame}
use Rattle.index_end.specs.Place.{started, drops}
use Rattle.index_record.specs.Record.{drop_stores, enter_stores, records, record_frame}
use Rattle.index_record.specs.Rollback.{rollback_frames}
use Rattle.list_latest.specs.Latest.{iter_latest_frames}
use Rattle.index_grown.specs.Entries.{entries}
use Rattle.index_scan.specs.Between.{frame_chosen, frame_between}
use Rattle.index_scan.specs.Nearest.{nearest, nearest_frame}
use Rattle.reader_register.specs.Register.{slot_answer, chosen_slot, register_reader}
use Rattle.reader_moves.specs.Update.{releases_slot, update_reader, unregister_reader}
use Rattle.reader_floor.specs.Floor.{floor_answer, floor_of, min_active_reader_frame, has_active_db_file_reader}
use Rattle.reader_limit.specs.Limit.{copy_back_limit}
use Rattle.reader_marks.specs.Registry.{one_less, record_of, with_record}
use Rattle.reader_shared.specs.Shared.{last_holder, shares, unshares, register_reader_for_snapshot, unregister_reader_for_snapshot}
use Rattle.sequence.specs.Sequence.{Settings, LookOp, IndexOp, HeaderOp, ProbeOp, SlotOp, SharedOp, find_op, list_op, between_op, nearest_op, record_op, rollback_op, acquire_op, unlock_op, backfill_op, seq_op, epoch_op, floor_op, limit_op, db_reader_op, register_op, move_op, release_op, share_op, unshare_op, look_op, index_op, commit_op, header_op, probe_op, slot_op, shared_op}
use Rattle.sequence.specs.Order.{RefusedInOrder, RefusalsInOrder}

-- the number of a refusal, 0 of any other answer
abbrev number_of : Answer → ℕ
number_of a = if_refused (λ n. n) 0 a

-- a call behind tests has the number of the first that applies, if it is not refused where none does
behind : (k : ℕ) (p : Process) (o : Outcome) → number_of o.answer ≡ 0 → number_of (accepted_or k p o).answer ≡ k
behind zero p o e = e
behind (suc k) p o e = refl

-- answers that are no refusals, by cases
either : (t : Bool) (x y : Outcome) → number_of x.answer ≡ 0 → number_of y.answer ≡ 0 → number_of (cond t x y).answer ≡ 0
either true x y a b = a
either false x y a b = b

one_of : (t : Bool) (x y : Answer) → number_of x ≡ 0 → number_of y ≡ 0 → number_of (cond t x y) ≡ 0
one_of true x y a b = a
one_of false x y a b = b

of_lookup : (l : Option ℕ) → number_of (lookup_answer l) ≡ 0
of_lookup (Some f) = refl
of_lookup None = refl

of_record : (capacity b page frame : ℕ) (grow : Bool) (m : Memory) (p : Process) → number_of (records capacity b page frame grow m p).answer ≡ 0
of_record capacity b page frame grow m p = go (drops capacity b grow (started frame m.header))
  where
    go : (t : Bool) → number_of (cond t (does dropped (drop_stores frame) m) (does stored (enter_stores page frame) m) p).answer ≡ 0
    go true = refl
    go false = refl

of_acquire : (lock : Lock) (owner byte : ℕ) (m : Memory) (p : Process) → number_of (acquires lock owner byte m p).answer ≡ 0
of_acquire lock owner byte m p =
    either (eqb (local_owner_of lock p) 0 && eqb byte 1)
    (record { answer = flag true; stores = to_header (owner_cell lock) owner ∷ []; process = with_local_owner lock owner p })
    (record { answer = flag false; stores = []; process = p })
    refl refl

of_find : (t : Bool) (l : Option ℕ) → number_of (cond t none (lookup_answer l)) ≡ 0
of_find t l = one_of t none (lookup_answer l) refl (of_lookup l)

of_slot : (owner mark : ℕ) (c : Option ℕ) → number_of (slot_answer owner mark c) ≡ 0
of_slot owner mark (Some i) = refl
of_slot owner mark None = refl

of_floor : (f : Option ℕ) → number_of (floor_answer f) ≡ 0
of_floor (Some f) = refl
of_floor None = refl

of_share : (n : ℕ) (mode : SharedWalOwnershipMode) (owner mark : ℕ) (bytes : List ℕ) (r : Option ℕ) (m : Memory) (p : Process) → number_of (shares n mode owner mark bytes r m p).answer ≡ 0
of_share n mode owner mark bytes (Some i) m p = refl
of_share n mode owner mark bytes None m p = of_slot owner mark (chosen_slot n mode bytes m p)

of_unshare : (mode : SharedWalOwnershipMode) (slot : ℕ) (r : Option ℕ) (m : Memory) (p : Process) → number_of (unshares mode slot r m p).answer ≡ 0
of_unshare mode slot (Some i) m p =
    either (last_holder p (Some i))
    (releases_slot mode slot m (with_record p i (one_less (get_or p.registry i no_mark))))
    (record { answer = ok; stores = []; process = with_record p i (one_less (get_or p.registry i no_mark)) })
    refl refl
of_unshare mode slot None m p = refl

module _ (s : Settings) (m : Memory) (p : Process) where
  abbrev seen_up_to : ℕ → Option ℕ → ℕ
  seen_up_to high w = visible m.frames m.header.frame_index_len (upper high w)

  looks_in_order : (o : LookOp) → RefusedInOrder s (look_op o) m p
  unfolding find_frame iter_latest_frames frame_between nearest_frame
  looks_in_order (find_op page low high w) = record { rise = refl; number = behind _ p _ (of_find (ltb (upper high w) low) (find_in (blocks_for (seen_up_to high w)) (seen_up_to high w) m.pages m.frames m.hash page (lower low w) (upper high w))) }
  looks_in_order (list_op low high room_pages room_frames) = record { rise = refl; number = behind _ p _ refl }
  looks_in_order (between_op page low high choice) = record { rise = refl; number = behind _ p _ (of_lookup (frame_chosen (entries m) page low high choice)) }
  looks_in_order (nearest_op page to) = record { rise = refl; number = behind _ p _ (of_lookup (nearest (entries m) page to)) }

  index_in_order : (o : IndexOp) → RefusedInOrder s (index_op o) m p
  unfolding record_frame rollback_frames
  index_in_order (record_op page frame grow) = record { rise = refl; number = behind _ p _ (of_record s.capacity s.max_blocks page frame grow m p) }
  index_in_order (rollback_op bound) = record { rise = refl; number = behind _ p _ refl }

  header_in_order : (o : HeaderOp) → RefusedInOrder s (header_op o) m p
  unfolding try_acquire release publish_backfill bump_checkpoint_seq bump_checkpoint_epoch
  header_in_order (acquire_op lock owner byte) = record { rise = refl; number = behind _ p _ (of_acquire lock owner byte m p) }
  header_in_order (unlock_op lock owner) = record { rise = refl; number = behind _ p _ refl }
  header_in_order (backfill_op n) = record { rise = refl; number = refl }
  header_in_order seq_op = record { rise = refl; number = refl }
  header_in_order epoch_op = record { rise = refl; number = refl }

  probes_in_order : (o : ProbeOp) → RefusedInOrder s (probe_op o) m p
  unfolding min_active_reader_frame copy_back_limit has_active_db_file_reader
  probes_in_order (floor_op bytes) = record { rise = refl; number = behind _ p _ (of_floor (floor_of s.slots s.mode bytes m p)) }
  probes_in_order (limit_op bytes) = record { rise = refl; number = behind _ p _ refl }
  probes_in_order (db_reader_op bytes) = record { rise = refl; number = behind _ p _ refl }

  slots_in_order : (o : SlotOp) → RefusedInOrder s (slot_op o) m p
  unfolding register_reader update_reader unregister_reader
  slots_in_order (register_op owner mark bytes) = record { rise = refl; number = behind _ p _ (of_slot owner mark (chosen_slot s.slots s.mode bytes m p)) }
  slots_in_order (move_op slot owner mark) = record { rise = refl; number = behind _ p _ refl }
  slots_in_order (release_op slot owner) = record { rise = refl; number = behind _ p _ refl }

  shared_in_order : (o : SharedOp) → RefusedInOrder s (shared_op o) m p
  unfolding register_reader_for_snapshot unregister_reader_for_snapshot
  shared_in_order (share_op owner mark bytes) = record { rise = refl; number = behind _ p _ (of_share s.slots s.mode owner mark bytes (record_of s.slots p.registry mark) m p) }
  shared_in_order (unshare_op mark slot owner) = record { rise = refl; number = behind _ p _ (of_unshare s.mode slot (record_of s.slots p.registry mark) m p) }

pub refusals_in_order : RefusalsInOrder
unfolding publish_commit
refusals_in_order s (look_op o) m p = looks_in_order s m p o
refusals_in_order s (index_op o) m p = index_in_order s m p o
refusals_in_order s (commit_op frame c1 c2 count) m p = record { rise = refl; number = refl }
refusals_in_order s (header_op o) m p = header_in_order s m p o
refusals_in_order s (probe_op o) m p = probes_in_order s m p o
refusals_in_order s (slot_op o) m p = slots_in_order s m p o
refusals_in_order s (shared_op o) m p = shared_in_order s m p o
