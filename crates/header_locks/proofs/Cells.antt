-- A lock's own cell and its shared one, read and written again. Assumes nothing.
use mathlib.Core.Path.{◌≡◌, refl, ap, ◌∙◌}
use mathlib.Core.Bool.{false, not}
use Prim.Native.Nat.{ℕ}
use lib.Dec.{eqb}
use borrow.Author.Tests.{eqb-true, not-false}
use Rattle.wal_types.specs.declared.Header.{Header}
use Rattle.wal_types.specs.Memory.{Process, header_with}
use Rattle.header_locks.specs.declared.Lock.{Lock}
use Rattle.header_locks.specs.declared.Lock.TheVariants.{Writer, Checkpoint}
use Rattle.header_locks.specs.InnerChange.{shared_owner_of}
use Rattle.header_locks.specs.Locks.{owner_cell, local_owner_of, with_local_owner}

pub local_of_with : (lock : Lock) (o : ℕ) (p : Process) → local_owner_of lock (with_local_owner lock o p) ≡ o
local_of_with Writer o p = refl
local_of_with Checkpoint o p = refl

pub with_twice : (lock : Lock) (v o : ℕ) (p : Process) → with_local_owner lock v (with_local_owner lock o p) ≡ with_local_owner lock v p
with_twice Writer v o p = refl
with_twice Checkpoint v o p = refl

shared_again : (lock : Lock) (h : Header) → header_with (owner_cell lock) (shared_owner_of lock h) h ≡ h
shared_again Writer h = refl
shared_again Checkpoint h = refl

pub owner_kept : (lock : Lock) (v : ℕ) (h : Header) → not (eqb v (shared_owner_of lock h)) ≡ false → header_with (owner_cell lock) v h ≡ h
owner_kept lock v h e =
    ap (λ (x : ℕ). header_with (owner_cell lock) x h) (eqb-true v (shared_owner_of lock h) (not-false (eqb v (shared_owner_of lock h)) e)) ∙ shared_again lock h
