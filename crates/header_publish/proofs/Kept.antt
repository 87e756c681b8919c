-- Publishing the copied count that is there already leaves the header as it is. Assumes nothing.
use Rattle.std.proofs.Common.{◌≡◌, ℕ, refl}
use Rattle.wal_types.specs.declared.Header.{Header}
use Rattle.wal_types.specs.Call.{ok}
use Rattle.header_publish.specs.Publish.{publish_backfill, HeaderCall}

pub backfill_kept : (n : ℕ) (h : Header) → n ≡ h.nbackfills → HeaderCall (publish_backfill n) h ok h
unfolding publish_backfill
backfill_kept n h e z p = rw e refl
