-- A call by a lock mode's number. Assumes nothing.
use Rattle.std.specs.Prelude.{Result, Ok, Err, ℕ}
use Rattle.wal_types.specs.declared.SharedWalOwnershipMode.{SharedWalOwnershipMode}
use Rattle.wal_types.specs.declared.refusal.Refusal.{Refusal}
use Rattle.wal_types.specs.Refusal.{number}
use Rattle.wal_types.specs.Call.{Call, refusal}

-- The call in the mode that a number gives; where it gives none, a refusal.
abbrev pub with_mode : Result SharedWalOwnershipMode Refusal → (SharedWalOwnershipMode → Call) → Call
with_mode (Ok mode) call = call mode
with_mode (Err r) call = λ m p. refusal (number r) p
