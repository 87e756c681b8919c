-- A lock mode as a number. Assumes nothing.
use Rattle.std.specs.Prelude.{Result, Ok, Err, cond, ℕ, eqb}
use Rattle.wal_types.specs.declared.SharedWalOwnershipMode.{SharedWalOwnershipMode}
use Rattle.wal_types.specs.declared.SharedWalOwnershipMode.TheVariants.{LinuxOfd, ProcessScopedFcntl}
use Rattle.wal_types.specs.declared.refusal.Refusal.{Refusal}
use Rattle.wal_types.specs.declared.refusal.Refusal.TheVariants.{Settings}

-- Mode 0 is LinuxOfd, 1 ProcessScopedFcntl; another number is a setting out of its limits.
unfoldable pub mode_given : ℕ → Result SharedWalOwnershipMode Refusal
mode_given n = cond (eqb n 0) (Ok LinuxOfd) (cond (eqb n 1) (Ok ProcessScopedFcntl) (Err Settings))
