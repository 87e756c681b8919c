-- What the lock calls store to: the lock's owner cell. Said of their lists of stores, for whatever holds of a store to it. Assumes nothing.
use mathlib.Core.Bool.{true, false, ◌&&◌}
use mathlib.Core.List.{[], ◌∷◌}
use Prim.Native.Nat.{ℕ}
use lib.Dec.{eqb}
use Rattle.wal_types.specs.declared.SharedWalOwnershipMode.{SharedWalOwnershipMode}
use Rattle.wal_types.specs.Memory.{Store, to_header}
use Rattle.wal_types.specs.Call.{flag}
use Rattle.wal_types.proofs.Every.{EveryOfCall, every_cond, every_unless}
use Rattle.header_locks.specs.declared.Lock.{Lock}
use Rattle.header_locks.specs.Locks.{owner_cell, local_owner_of, with_local_owner, acquire_tests, acquires, try_acquire, release_tests, releases, release}

module _ (P : Store → Type 0) (lock : Lock) (cell : (v : ℕ) → P (to_header (owner_cell lock) v)) where
  pub acquire_stores : (owner byte : ℕ) → EveryOfCall P (try_acquire lock owner byte)
  unfolding try_acquire
  acquire_stores owner byte =
      every_unless P (λ m p. acquire_tests owner byte) (acquires lock owner byte)
      (λ m p. every_cond P (eqb (local_owner_of lock p) 0 && eqb byte 1) (record { answer = flag true; stores = to_header (owner_cell lock) owner ∷ []; process = with_local_owner lock owner p }) (record { answer = flag false; stores = []; process = p }) (cell owner, tt) tt)

  pub release_stores : (mode : SharedWalOwnershipMode) (owner : ℕ) → EveryOfCall P (release lock mode owner)
  unfolding release
  release_stores mode owner = every_unless P (λ m p. release_tests mode (local_owner_of lock p) owner) (releases lock) (λ m p. (cell 0, tt))
