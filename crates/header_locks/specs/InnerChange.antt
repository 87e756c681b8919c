-- A lock's shared cell, read. Assumes nothing.
use Rattle.std.specs.Prelude.{ℕ}
use Rattle.wal_types.specs.declared.Header.{Header}
use Rattle.header_locks.specs.declared.Lock.{Lock}
use Rattle.header_locks.specs.declared.Lock.TheVariants.{Writer, Checkpoint}

abbrev pub shared_owner_of : Lock → Header → ℕ
shared_owner_of Writer h = h.writer_owner
shared_owner_of Checkpoint h = h.checkpoint_owner
