-- Calls that leave the index and the published frame alone: none of their stores is to one of these cells. All calls but record, rollback and commit are such. Assumes nothing.
use mathlib.Core.Path.{◌≡◌, refl, ◌∙◌}
use mathlib.Core.Bool.{Bool, true, false, false≢true, not, ◌&&◌}
use Prim.Native.Nat.{ℕ}
use lib.Dec.{eqb}
use Rattle.wal_types.specs.Memory.{Memory, Process, HeaderCell, place, frame_index_blocks_cell, frame_index_len_cell, max_frame_cell, SlotPart, Store, to_header, to_index, to_slots, put}
use Rattle.wal_types.specs.Call.{Call, after}
use Rattle.wal_types.proofs.Every.{EveryOfCall, every_of_reads, by_every}
use Rattle.header_locks.specs.declared.Lock.{Lock}
use Rattle.header_locks.specs.declared.Lock.TheVariants.{Writer, Checkpoint}
use Rattle.header_locks.specs.Locks.{owner_cell}
use Rattle.header_locks.proofs.Stored.{acquire_stores, release_stores as unlock_stores}
use Rattle.header_publish.proofs.Stored.{backfill_stores, seq_stores, epoch_stores}
use Rattle.index_grown.specs.Grown.{SameIndex}
use Rattle.sequence.specs.Sequence.{Settings, LookOp, look, HeaderOp, acquire_op, unlock_op, backfill_op, seq_op, epoch_op, on_header, ProbeOp, floor_op, limit_op, db_reader_op, probe, SlotOp, register_op, move_op, release_op, on_slot, SharedOp, share_op, unshare_op, on_registry}
use Rattle.sequence.proofs.Looks.{only_looks}
use Rattle.sequence.proofs.ReaderStores.{register_stores, share_stores, move_stores, release_stores, unshare_stores, floor_stores, limit_stores, db_reader_stores}

-- length, blocks, pages, frames and hash, and the published frame, are the same
pub record Untouched (m m' : Memory) : Type 0 where
  pub index_same : SameIndex m m'
  pub published_same : m'.header.max_frame ≡ m.header.max_frame

untouched : {m m' : Memory} → m'.header.frame_index_len ≡ m.header.frame_index_len → m'.header.frame_index_blocks ≡ m.header.frame_index_blocks → m'.pages ≡ m.pages → m'.frames ≡ m.frames → m'.hash ≡ m.hash
    → m'.header.max_frame ≡ m.header.max_frame → Untouched m m'
untouched l k p f h e = record { index_same = record { same_len = l; same_blocks = k; same_pages = p; same_frames = f; same_hash = h }; published_same = e }

untouched_itself : (m : Memory) → Untouched m m
untouched_itself m = untouched refl refl refl refl refl refl

untouched_twice : (m m' m'' : Memory) → Untouched m m' → Untouched m' m'' → Untouched m m''
untouched_twice m m' m'' a b =
    let i = a.index_same in
    let j = b.index_same in
    untouched (j.same_len ∙ i.same_len) (j.same_blocks ∙ i.same_blocks) (j.same_pages ∙ i.same_pages) (j.same_frames ∙ i.same_frames) (j.same_hash ∙ i.same_hash) (b.published_same ∙ a.published_same)

-- a header cell that is not the length, the blocks in use or the published frame
abbrev is_beside : HeaderCell → Bool
is_beside c = not (eqb (place c) (place frame_index_blocks_cell)) && not (eqb (place c) (place frame_index_len_cell)) && not (eqb (place c) (place max_frame_cell))

-- a store to another cell than those of the index and the published frame
abbrev pub Beside : Store → Type 0
Beside (to_header c v) = is_beside c ≡ true
Beside (to_index part i v) = ⊥
Beside (to_slots part i v) = Unit {0}

three_false : (a b c : Bool) → (not a && not b && not c) ≡ true → (a ≡ false) × (b ≡ false) × (c ≡ false)
three_false false false false e = (refl, refl, refl)
three_false false false true e = absurd (false≢true e)
three_false false true c e = absurd (false≢true e)
three_false true b c e = absurd (false≢true e)

put_beside : (s : Store) (m : Memory) → Beside s → Untouched m (put s m)
put_beside (to_header c v) m x =
    let e = three_false (eqb (place c) 0) (eqb (place c) 1) (eqb (place c) 3) x in
    untouched (rw e.1) (rw e.0) refl refl refl (rw e.2)
put_beside (to_index part i v) m x = absurd x
put_beside (to_slots part i v) m x = untouched refl refl refl refl refl refl

-- A call that leaves the index and the published frame alone, and what it leaves.
abbrev pub LeavesIndex : Call → Type 0
LeavesIndex = EveryOfCall Beside

pub untouched_by : (call : Call) → LeavesIndex call → (m : Memory) (p : Process) → Untouched m (after call m p).memory
untouched_by call x m p = by_every Beside Untouched untouched_itself untouched_twice put_beside (call m p).stores m (x m p)

-- THE CALLS of each family that are such
pub look_beside : (s : Settings) (o : LookOp) → LeavesIndex (look s o)
look_beside s o = every_of_reads Beside (look s o) (only_looks s o)

owner_beside : (lock : Lock) (v : ℕ) → Beside (to_header (owner_cell lock) v)
owner_beside Writer v = refl
owner_beside Checkpoint v = refl

pub header_beside : (s : Settings) (o : HeaderOp) → LeavesIndex (on_header s o)
header_beside s (acquire_op lock owner byte) m p = acquire_stores Beside lock (owner_beside lock) _ _ m _
header_beside s (unlock_op lock owner) m p = unlock_stores Beside lock (owner_beside lock) _ _ m _
header_beside s (backfill_op n) m p = backfill_stores Beside (λ v. refl) _ m _
header_beside s seq_op m p = seq_stores Beside (λ v. refl) m _
header_beside s epoch_op m p = epoch_stores Beside (λ v. refl) m _

-- those on readers store to the slots' lists alone
beside_slots : (k : SlotPart) (i v : ℕ) → Beside (to_slots k i v)
beside_slots k i v = tt

pub probe_beside : (s : Settings) (o : ProbeOp) → LeavesIndex (probe s o)
probe_beside s (floor_op bytes) m p = floor_stores Beside beside_slots _ _ _ m _
probe_beside s (limit_op bytes) m p = limit_stores Beside beside_slots _ _ _ m _
probe_beside s (db_reader_op bytes) m p = db_reader_stores Beside beside_slots _ _ _ m _

pub slot_beside : (s : Settings) (o : SlotOp) → LeavesIndex (on_slot s o)
slot_beside s (register_op owner mark bytes) m p = register_stores Beside beside_slots _ _ _ _ _ m _
slot_beside s (move_op slot owner mark) m p = move_stores Beside beside_slots _ _ _ _ m _
slot_beside s (release_op slot owner) m p = release_stores Beside beside_slots _ _ _ _ m _

pub shared_beside : (s : Settings) (o : SharedOp) → LeavesIndex (on_registry s o)
shared_beside s (share_op owner mark bytes) m p = share_stores Beside beside_slots _ _ _ _ _ m _
shared_beside s (unshare_op mark slot owner) m p = unshare_stores Beside beside_slots _ _ _ _ _ m _
