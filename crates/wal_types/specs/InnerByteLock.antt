-- A byte lock's answer as a byte. Assumes nothing.
use Rattle.std.specs.Prelude.{Result, Ok, Err, cond, ℕ, eqb}
use Rattle.wal_types.specs.declared.byte_lock.ByteLock.{ByteLock}
use Rattle.wal_types.specs.declared.byte_lock.ByteLock.TheVariants.{Busy, Granted, Error}
use Rattle.wal_types.specs.declared.refusal.Refusal.{Refusal}
use Rattle.wal_types.specs.declared.refusal.Refusal.TheVariants.{Card}

-- Byte 0 is busy, 1 granted, 2 an error; another is refused as a card's.
unfoldable pub byte_lock_given : ℕ → Result ByteLock Refusal
byte_lock_given n = cond (eqb n 0) (Ok Busy) (cond (eqb n 1) (Ok Granted) (cond (eqb n 2) (Ok Error) (Err Card)))
