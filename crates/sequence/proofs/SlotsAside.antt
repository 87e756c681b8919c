-- Calls that leave the reader slots, and their process's own reader cells and registry, alone: those on the index, on the header and on the two locks. Assumes nothing.
use mathlib.Core.Path.{◌≡◌, refl, ◌∙◌}
use mathlib.Core.Bool.{Bool, true, false, ◌&&◌, cond}
use mathlib.Core.List.{List, [], ◌∷◌}
use Prim.Native.Nat.{ℕ, zero, suc}
use lib.Dec.{eqb}
use Rattle.wal_types.specs.declared.SharedWalOwnershipMode.{SharedWalOwnershipMode}
use Rattle.wal_types.specs.Memory.{Memory, Process, Store, to_header, to_index, to_slots, put}
use Rattle.wal_types.specs.Store.{apply}
use Rattle.wal_types.specs.Refusal.{Test, lowest}
use Rattle.wal_types.specs.Call.{Call, Outcome, Done, done, refused, flag, stored, dropped, kept, does, accepted_or, unless, after}
use Rattle.wal_types.proofs.Every.{EveryOfCall, Reads, every_of_reads, by_every}
use Rattle.header_locks.specs.declared.Lock.{Lock}
use Rattle.header_locks.specs.declared.Lock.TheVariants.{Writer, Checkpoint}
use Rattle.header_publish.specs.Publish.{publish_commit, publish_backfill, bump_checkpoint_seq, bump_checkpoint_epoch}
use Rattle.header_locks.specs.Locks.{local_owner_of, owner_cell, with_local_owner, acquire_tests, acquires, try_acquire, release_tests, releases, release}
use Rattle.header_locks.proofs.Stored.{acquire_stores, release_stores}
use Rattle.header_publish.proofs.Stored.{commit_stores_to, backfill_stores, seq_stores, epoch_stores}
use Rattle.index_find.specs.Index.{index_tests}
use Rattle.index_end.specs.Place.{started, drops}
use Rattle.index_record.specs.Record.{record_tests, drop_stores, enter_stores, records, record_frame}
use Rattle.index_record.specs.Rollback.{kept_len, rollback_stores, rollback_frames}
use Rattle.index_record.proofs.Stored.{record_stores, rollback_stores_to}

-- a call is refused and changes nothing, or passes its tests and is made
module _ (tests : Memory → Process → List Test) (call : Call) (m : Memory) (p : Process) where
  pub by_tests : (P : Done → Type 0) → ((k : ℕ) → P (done (refused k) m p)) → (lowest (tests m p) ≡ 0 → P (after call m p)) → P (after (unless tests call) m p)
  by_tests P away made = go (lowest (tests m p)) refl
    where
      go : (k : ℕ) → lowest (tests m p) ≡ k → P (done (accepted_or k p (call m p)).answer (apply (accepted_or k p (call m p)).stores m) (accepted_or k p (call m p)).process)
      go zero e = made e
      go (suc k) e = away (suc k)

-- a store to no slot
abbrev pub Aside : Store → Type 0
Aside (to_header c v) = Unit {0}
Aside (to_index part i v) = Unit {0}
Aside (to_slots part i v) = ⊥

-- slot bits, frames and owners are the same
record SlotsSame (m m' : Memory) : Type 0 where
  bits_same : m'.bitmap ≡ m.bitmap
  frames_same : m'.reader_frames ≡ m.reader_frames
  owners_same : m'.reader_owners ≡ m.reader_owners

same_itself : (m : Memory) → SlotsSame m m
same_itself m = record { bits_same = refl; frames_same = refl; owners_same = refl }

same_twice : (m m' m'' : Memory) → SlotsSame m m' → SlotsSame m' m'' → SlotsSame m m''
same_twice m m' m'' a b = record { bits_same = b.bits_same ∙ a.bits_same; frames_same = b.frames_same ∙ a.frames_same; owners_same = b.owners_same ∙ a.owners_same }

put_aside : (s : Store) (m : Memory) → Aside s → SlotsSame m (put s m)
put_aside (to_header c v) m x = record { bits_same = refl; frames_same = refl; owners_same = refl }
put_aside (to_index part i v) m x = record { bits_same = refl; frames_same = refl; owners_same = refl }
put_aside (to_slots part i v) m x = absurd x

-- the process's own reader cells and registry are the same
pub record OwnSame (p p' : Process) : Type 0 where
  pub locals_same : p'.local_readers ≡ p.local_readers
  pub registry_same : p'.registry ≡ p.registry

own_itself : (p : Process) → OwnSame p p
own_itself p = record { locals_same = refl; registry_same = refl }

-- A call that leaves the slots and these alone.
pub record LeavesSlots (call : Call) : Type 0 where
  pub stores_aside : EveryOfCall Aside call
  pub own_left : (m : Memory) (p : Process) → OwnSame p (call m p).process

-- what it leaves
pub record Leaves (m : Memory) (p : Process) (d : Done) : Type 0 where
  pub bits_left : d.memory.bitmap ≡ m.bitmap
  pub frames_left : d.memory.reader_frames ≡ m.reader_frames
  pub owners_left : d.memory.reader_owners ≡ m.reader_owners
  pub locals_left : d.process.local_readers ≡ p.local_readers
  pub registry_left : d.process.registry ≡ p.registry

pub left_by : (call : Call) → LeavesSlots call → (m : Memory) (p : Process) → Leaves m p (after call m p)
left_by call x m p =
    let s = by_every Aside SlotsSame same_itself same_twice put_aside (call m p).stores m (x.stores_aside m p) in
    let o = x.own_left m p in
    record { bits_left = s.bits_same; frames_left = s.frames_same; owners_left = s.owners_same; locals_left = o.locals_same; registry_left = o.registry_same }

own_accepted : (n : ℕ) (p : Process) (o : Outcome) → OwnSame p o.process → OwnSame p (accepted_or n p o).process
own_accepted zero p o x = x
own_accepted (suc n) p o x = own_itself p

own_unless : (tests : Memory → Process → List Test) (call : Call) → ((m : Memory) (p : Process) → OwnSame p (call m p).process) → (m : Memory) (p : Process) → OwnSame p (unless tests call m p).process
own_unless tests call x m p = own_accepted (lowest (tests m p)) p (call m p) (x m p)

own_cond : (t : Bool) (f g : Outcome) (p : Process) → OwnSame p f.process → OwnSame p g.process → OwnSame p (cond t f g).process
own_cond true f g p x y = x
own_cond false f g p x y = y

own_cond_of : (t : Bool) (f g : Process → Outcome) (p : Process) → OwnSame p (f p).process → OwnSame p (g p).process → OwnSame p (cond t f g p).process
own_cond_of true f g p x y = x
own_cond_of false f g p x y = y

-- reading calls
pub reads_leave : (call : Call) → Reads call → LeavesSlots call
reads_leave call r = record { stores_aside = every_of_reads Aside call r; own_left = λ m p. rw (r m p).1 (own_itself p) }

-- calls on the index
record_own : (capacity b page frame : ℕ) (grow : Bool) (m : Memory) (p : Process) → OwnSame p (record_frame capacity b page frame grow m p).process
unfolding record_frame
record_own capacity b page frame grow =
    own_unless (λ m p. record_tests capacity b page frame grow m) (records capacity b page frame grow)
    (λ m p. own_cond_of (drops capacity b grow (started frame m.header)) (does dropped (drop_stores frame) m) (does stored (enter_stores page frame) m) p (own_itself p) (own_itself p))

pub record_leaves : (capacity b page frame : ℕ) (grow : Bool) → LeavesSlots (record_frame capacity b page frame grow)
record_leaves capacity b page frame grow =
    record {
      stores_aside = record_stores Aside (λ v. tt) (λ v. tt) (λ v. tt) (λ k i v. tt) capacity b page frame grow;
      own_left = record_own capacity b page frame grow;
    }

rollback_own : (capacity b bound : ℕ) (m : Memory) (p : Process) → OwnSame p (rollback_frames capacity b bound m p).process
unfolding rollback_frames
rollback_own capacity b bound = own_unless (λ m p. index_tests capacity b m) (λ m. does (kept (kept_len bound m)) (rollback_stores (kept_len bound m)) m) (λ m p. own_itself p)

pub rollback_leaves : (capacity b bound : ℕ) → LeavesSlots (rollback_frames capacity b bound)
rollback_leaves capacity b bound =
    record {
      stores_aside = rollback_stores_to Aside (λ v. tt) (λ v. tt) (λ v. tt) (λ k i v. tt) capacity b bound;
      own_left = rollback_own capacity b bound;
    }

-- calls on the header
pub commit_leaves : (frame c1 c2 count : ℕ) → LeavesSlots (publish_commit frame c1 c2 count)
unfolding publish_commit
commit_leaves frame c1 c2 count =
    record {
      stores_aside = commit_stores_to Aside (λ v. tt) (λ v. tt) (λ v. tt) (λ v. tt) (λ v. tt) frame c1 c2 count;
      own_left = λ m p. own_itself p;
    }

pub backfill_leaves : (n : ℕ) → LeavesSlots (publish_backfill n)
unfolding publish_backfill
backfill_leaves n = record { stores_aside = backfill_stores Aside (λ v. tt) n; own_left = λ m p. own_itself p }

pub seq_leaves : LeavesSlots bump_checkpoint_seq
unfolding bump_checkpoint_seq
seq_leaves = record { stores_aside = seq_stores Aside (λ v. tt); own_left = λ m p. own_itself p }

pub epoch_leaves : LeavesSlots bump_checkpoint_epoch
unfolding bump_checkpoint_epoch
epoch_leaves = record { stores_aside = epoch_stores Aside (λ v. tt); own_left = λ m p. own_itself p }

-- the locks: their process's cell for the lock is no reader's
with_owner_same : (lock : Lock) (v : ℕ) (p : Process) → OwnSame p (with_local_owner lock v p)
with_owner_same Writer v p = record { locals_same = refl; registry_same = refl }
with_owner_same Checkpoint v p = record { locals_same = refl; registry_same = refl }

acquire_own : (lock : Lock) (owner byte : ℕ) (m : Memory) (p : Process) → OwnSame p (try_acquire lock owner byte m p).process
unfolding try_acquire
acquire_own lock owner byte =
    own_unless (λ m p. acquire_tests owner byte) (acquires lock owner byte)
    (λ m p. own_cond (eqb (local_owner_of lock p) 0 && eqb byte 1) (record { answer = flag true; stores = to_header (owner_cell lock) owner ∷ []; process = with_local_owner lock owner p }) (record { answer = flag false; stores = []; process = p }) p (with_owner_same lock owner p) (own_itself p))

pub acquire_leaves : (lock : Lock) (owner byte : ℕ) → LeavesSlots (try_acquire lock owner byte)
acquire_leaves lock owner byte = record { stores_aside = acquire_stores Aside lock (λ v. tt) owner byte; own_left = acquire_own lock owner byte }

unlock_own : (lock : Lock) (mode : SharedWalOwnershipMode) (owner : ℕ) (m : Memory) (p : Process) → OwnSame p (release lock mode owner m p).process
unfolding release
unlock_own lock mode owner = own_unless (λ m p. release_tests mode (local_owner_of lock p) owner) (releases lock) (λ m p. with_owner_same lock 0 p)

pub unlock_leaves : (lock : Lock) (mode : SharedWalOwnershipMode) (owner : ℕ) → LeavesSlots (release lock mode owner)
unlock_leaves lock mode owner = record { stores_aside = release_stores Aside lock (λ v. tt) mode owner; own_left = unlock_own lock mode owner }
