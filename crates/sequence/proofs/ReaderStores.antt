-- What the calls on readers store to: the lists of the reader slots, and nothing else. Said of their lists of stores, for whatever holds of a store to one of these. Assumes nothing.
use Rattle.std.specs.Prelude.{None, Option, Some, is_some}
use mathlib.Core.Bool.{Bool}
use mathlib.Core.List.{List, []}
use Prim.Native.Nat.{ℕ, zero, suc, ◌+◌}
use lib.ListN.{get_or}
use Rattle.wal_types.specs.declared.SharedWalOwnershipMode.{SharedWalOwnershipMode}
use Rattle.wal_types.specs.declared.SharedWalOwnershipMode.TheVariants.{LinuxOfd, ProcessScopedFcntl}
use Rattle.wal_types.specs.Memory.{Memory, Process, no_mark, SlotPart, Store, to_slots, to_reader_frame}
use Rattle.wal_types.specs.Store.{one, when}
use Rattle.wal_types.specs.Call.{ok, flag, value, slot_taken, does}
use Rattle.wal_types.proofs.Every.{EveryOf, EveryOfCall, every_then, every_when, every_cond, every_unless}
use Rattle.reader_slots.specs.Slots.{empty_slot, empty_slots}
use Rattle.reader_register.specs.Register.{reclaim_unless, take_found, first_slot, chosen_slot, registers, register_tests, register_reader}
use Rattle.reader_moves.specs.Update.{update_tests, update_reader, releases_slot, unregister_reader, release_tests}
use Rattle.reader_probe.specs.Live.{dead, looked_at}
use Rattle.reader_floor.specs.Floor.{reclaim_dead, floor_of, floor_answer, probe_tests, db_file_reader_of, min_active_reader_frame, has_active_db_file_reader}
use Rattle.reader_limit.specs.Limit.{limit_at, copy_back_limit}
use Rattle.reader_marks.specs.Registry.{record_of, one_less, with_record}
use Rattle.reader_shared.specs.Shared.{share_tests, shares, register_reader_for_snapshot, last_holder, unshare_tests, unshares, unregister_reader_for_snapshot}

module _ (P : Store → Type 0) (part : (k : SlotPart) (i v : ℕ) → P (to_slots k i v)) where
  empties : (mode : SharedWalOwnershipMode) (i : ℕ) → EveryOf P (empty_slot mode i)
  empties LinuxOfd i m = (part _ _ _, (part _ _ _, (part _ _ _, tt)))
  empties ProcessScopedFcntl i m = (part _ _ _, (part _ _ _, (part _ _ _, tt)))

  empties_all : (mode : SharedWalOwnershipMode) (test : Memory → ℕ → Bool) (left i : ℕ) → EveryOf P (empty_slots mode test left i)
  unfolding empty_slots
  empties_all mode test zero i m = tt
  empties_all mode test (suc left) i m =
      every_then P (when (test m i) (empty_slot mode i)) (empty_slots mode test left (i + 1)) (every_when P (test m i) (empty_slot mode i) (empties mode i)) (empties_all mode test left (i + 1)) m

  -- a registration: slots are reclaimed or not, and one is taken or not
  module _ (n : ℕ) (mode : SharedWalOwnershipMode) (owner mark : ℕ) (bytes : List ℕ) where
    reclaims : (p : Process) (s : Option ℕ) → EveryOf P (reclaim_unless n mode bytes p s)
    reclaims p (Some i) m = tt
    reclaims p None m = empties_all mode _ n 0 m

    takes : (s : Option ℕ) → EveryOf P (take_found owner mark s)
    takes (Some i) m = (part _ _ _, (part _ _ _, (part _ _ _, tt)))
    takes None m = tt

    registers_stores : EveryOfCall P (registers n mode owner mark bytes)
    registers_stores m p =
        let first = first_slot n bytes m p in
        let chosen = chosen_slot n mode bytes m p in
        every_then P (reclaim_unless n mode bytes p first) (take_found owner mark chosen) (reclaims p first) (takes chosen) m

    pub register_stores : EveryOfCall P (register_reader n mode owner mark bytes)
    unfolding register_reader
    register_stores = every_unless P (register_tests n owner mark bytes) (registers n mode owner mark bytes) registers_stores

    -- a shared one, by the first record of its mark
    shares_stores : (r : Option ℕ) → EveryOfCall P (shares n mode owner mark bytes r)
    shares_stores (Some i) m p = tt
    shares_stores None m p = registers_stores m p

    pub share_stores : EveryOfCall P (register_reader_for_snapshot n mode owner mark bytes)
    unfolding register_reader_for_snapshot
    share_stores = every_unless P (share_tests n mode owner mark bytes) (λ m p. shares n mode owner mark bytes (record_of n p.registry mark) m p) (λ m p. shares_stores (record_of n p.registry mark) m p)

  -- moves and releases
  pub move_stores : (n slot owner mark : ℕ) → EveryOfCall P (update_reader n slot owner mark)
  unfolding update_reader
  move_stores n slot owner mark = every_unless P (update_tests n slot owner mark) (does (slot_taken slot owner mark) (one (to_reader_frame slot mark))) (λ m p. (part _ _ _, tt))

  pub release_stores : (n : ℕ) (mode : SharedWalOwnershipMode) (slot owner : ℕ) → EveryOfCall P (unregister_reader n mode slot owner)
  unfolding unregister_reader
  release_stores n mode slot owner = every_unless P (release_tests n mode slot owner) (releases_slot mode slot) (λ m p. empties mode slot m)

  unshares_stores : (mode : SharedWalOwnershipMode) (slot : ℕ) (r : Option ℕ) → EveryOfCall P (unshares mode slot r)
  unshares_stores mode slot (Some i) m p =
      let less = with_record p i (one_less (get_or p.registry i no_mark)) in
      every_cond P (last_holder p (Some i)) (releases_slot mode slot m less) (record { answer = ok; stores = []; process = less }) (empties mode slot m) tt
  unshares_stores mode slot None m p = tt

  pub unshare_stores : (n : ℕ) (mode : SharedWalOwnershipMode) (mark slot owner : ℕ) → EveryOfCall P (unregister_reader_for_snapshot n mode mark slot owner)
  unfolding unregister_reader_for_snapshot
  unshare_stores n mode mark slot owner =
      every_unless P (unshare_tests n mode mark slot owner) (λ m p. unshares mode slot (record_of n p.registry mark) m p) (λ m p. unshares_stores mode slot (record_of n p.registry mark) m p)

  -- the calls that probe slots
  module _ (n : ℕ) (mode : SharedWalOwnershipMode) (bytes : List ℕ) where
    dead_stores : (p : Process) (looked : ℕ) → EveryOf P (reclaim_dead mode bytes p looked)
    dead_stores p looked m = empties_all mode (dead mode bytes p) looked 0 m

    pub floor_stores : EveryOfCall P (min_active_reader_frame n mode bytes)
    unfolding min_active_reader_frame
    floor_stores =
        every_unless P (probe_tests n mode bytes n) (λ m p. does (floor_answer (floor_of n mode bytes m p)) (reclaim_dead mode bytes p n) m p) (λ m p. dead_stores p n m)

    pub limit_stores : EveryOfCall P (copy_back_limit n mode bytes)
    unfolding copy_back_limit
    limit_stores =
        every_unless P (probe_tests n mode bytes n) (λ m p. does (value (limit_at n mode bytes m p)) (reclaim_dead mode bytes p n) m p) (λ m p. dead_stores p n m)

    pub db_reader_stores : EveryOfCall P (has_active_db_file_reader n mode bytes)
    unfolding has_active_db_file_reader
    db_reader_stores =
        every_unless P (λ m p. probe_tests n mode bytes (looked_at n (db_file_reader_of n mode bytes m p)) m p)
        (λ m p. does (flag (is_some (db_file_reader_of n mode bytes m p))) (reclaim_dead mode bytes p (looked_at n (db_file_reader_of n mode bytes m p))) m p)
        (λ m p. dead_stores p (looked_at n (db_file_reader_of n mode bytes m p)) m)
