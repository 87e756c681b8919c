-- What each call may do to the index: record, roll back, publish, or nothing. Assumes nothing.
use mathlib.Core.Path.{◌≡◌, refl}
use mathlib.Core.Bool.{Bool}
use Prim.Native.Nat.{ℕ}
use Rattle.wal_types.specs.Call.{Answer}
use Rattle.sequence.specs.Sequence.{Settings, record_op, rollback_op, Op, look_op, index_op, commit_op, header_op, probe_op, slot_op, shared_op, perform}
use Rattle.sequence.specs.Book.{Book, entered}
use Rattle.sequence.proofs.IndexAside.{LeavesIndex, look_beside, header_beside, probe_beside, slot_beside, shared_beside}

-- A call, by what it may do to the index; one that leaves it alone is not entered in the book.
pub data ToIndex (s : Settings) : Op → Type 0 where
  records : {page frame : ℕ} {grow : Bool} → ToIndex s (index_op (record_op page frame grow))
  rolls : {bound : ℕ} → ToIndex s (index_op (rollback_op bound))
  publishes : {frame c1 c2 count : ℕ} → ToIndex s (commit_op frame c1 c2 count)
  passes_by : {op : Op} → LeavesIndex (perform s op) → ((a : Answer) (b : Book) → entered op a b ≡ b) → ToIndex s op

-- EACH CALL
pub to_index : (s : Settings) (op : Op) → ToIndex s op
to_index s (index_op (record_op page frame grow)) = records
to_index s (index_op (rollback_op bound)) = rolls
to_index s (commit_op frame c1 c2 count) = publishes
to_index s (look_op o) = passes_by (look_beside s o) (λ a b. refl)
to_index s (header_op o) = passes_by (header_beside s o) (λ a b. refl)
to_index s (probe_op o) = passes_by (probe_beside s o) (λ a b. refl)
to_index s (slot_op o) = passes_by (slot_beside s o) (λ a b. refl)
to_index s (shared_op o) = passes_by (shared_beside s o) (λ a b. refl)
