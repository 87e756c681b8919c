-- Every memory reached from fresh memory by records, rollbacks and changes elsewhere is a grown index. Assumes nothing.
use Prim.Native.Nat.{ℕ}
use Rattle.wal_types.specs.Memory.{Memory}
use Rattle.index_grown.specs.Grown.{Grown, GrownFrom, from_fresh, by_record, by_rollback, by_other}
use Rattle.index_grown.proofs.Starts.{fresh_grown, same_grown}
use Rattle.index_grown.proofs.Records.{record_grown}
use Rattle.index_grown.proofs.Rollbacks.{rollback_grown}

-- THE INVARIANT
pub grown_from : (capacity b : ℕ) {m : Memory} → GrownFrom capacity b m → Grown capacity b m
grown_from capacity b (from_fresh {m} start n s fresh long) = fresh_grown capacity b m start n s fresh long
grown_from capacity b (by_record {m} page frame grow p g) = record_grown capacity b page frame grow m p (grown_from capacity b g)
grown_from capacity b (by_rollback {m} bound p g) = rollback_grown capacity b bound m p (grown_from capacity b g)
grown_from capacity b (by_other {m} {m'} same g) = same_grown capacity b m (grown_from capacity b g) m' same
