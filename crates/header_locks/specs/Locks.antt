-- The writer and the checkpoint lock (document 01, "Locks"). Assumes nothing.
use Rattle.std.specs.Prelude.{◌≡◌, Result, Ok, Err, Bool, true, false, not, ◌&&◌, cond, List, [], ◌∷◌, ℕ, eqb, ltb}
use Rattle.wal_types.specs.declared.Header.{Header}
use Rattle.wal_types.specs.declared.SharedWalOwnershipMode.{SharedWalOwnershipMode}
use Rattle.wal_types.specs.Settings.{is_fcntl}
use Rattle.wal_types.specs.Memory.{Memory, Process, with_header, with_local_writer, with_local_checkpoint, HeaderCell, to_header, writer_owner_cell, checkpoint_owner_cell}
use Rattle.wal_types.specs.declared.refusal.Refusal.{Refusal}
use Rattle.wal_types.specs.Refusal.{Test, ◌if◌, number}
use Rattle.wal_types.specs.declared.refusal.Refusal.TheVariants.{NotHeld, OtherOwner, NoOwner, Card}
use Rattle.wal_types.specs.Call.{Call, Carried, Answer, refused, ok, flag, unless, after, done}
use Rattle.header_locks.specs.declared.Lock.{Lock}
use Rattle.header_locks.specs.declared.Lock.TheVariants.{Writer, Checkpoint}

-- a lock's shared owner cell
abbrev pub owner_cell : Lock → HeaderCell
owner_cell Writer = writer_owner_cell
owner_cell Checkpoint = checkpoint_owner_cell

-- the process's own cell for a lock, 0 = not held here
abbrev pub local_owner_of : Lock → Process → ℕ
local_owner_of Writer p = p.local_writer
local_owner_of Checkpoint p = p.local_checkpoint

-- the process with v in that cell
abbrev pub with_local_owner : Lock → ℕ → Process → Process
with_local_owner Writer v p = with_local_writer p v
with_local_owner Checkpoint v p = with_local_checkpoint p v

-- Acquire: refused for owner 0, and for a card byte above 2.
abbrev pub acquire_tests : ℕ → ℕ → List Test
acquire_tests owner byte = (NoOwner if eqb owner 0) ∷ (Card if ltb 2 byte) ∷ []

-- False if held here or the card is not 1; else the owner is stored, in the shared and in the own cell.
abbrev pub acquires : Lock → ℕ → ℕ → Call
acquires lock owner byte m p =
    cond (eqb (local_owner_of lock p) 0 && eqb byte 1)
    (record { answer = flag true; stores = to_header (owner_cell lock) owner ∷ []; process = with_local_owner lock owner p })
    (record { answer = flag false; stores = []; process = p })

unfoldable pub try_acquire : Lock → ℕ → ℕ → Call
try_acquire lock owner byte = unless (λ m p. acquire_tests owner byte) (acquires lock owner byte)

-- Release: refused if not held here; in Fcntl if the owner is not the local one; for owner 0. LinuxOfd does not compare owners.
abbrev pub release_tests : SharedWalOwnershipMode → ℕ → ℕ → List Test
release_tests mode local owner =
    (NotHeld if eqb local 0)
    ∷ (OtherOwner if (is_fcntl mode && not (eqb owner local)))
    ∷ (NoOwner if eqb owner 0)
    ∷ []

-- Both cells become 0.
abbrev pub releases : Lock → Call
releases lock m p = record { answer = ok; stores = to_header (owner_cell lock) 0 ∷ []; process = with_local_owner lock 0 p }

unfoldable pub release : Lock → SharedWalOwnershipMode → ℕ → Call
release lock mode owner = unless (λ m p. release_tests mode (local_owner_of lock p) owner) (releases lock)

-- On any memory with the header h in it, by any process with the local owner o, it answers a, leaves the header h' and the
-- local owner o', and changes nothing else.
abbrev pub LockCarried : Lock → Carried → Header → ℕ → Answer → Header → ℕ → Type 0
LockCarried lock carried h o a h' o' =
    (z : Memory) (p : Process) → carried (with_header z h) (with_local_owner lock o p) ≡ done a (with_header z h') (with_local_owner lock o' p)

abbrev pub LockCall : Lock → Call → Header → ℕ → Answer → Header → ℕ → Type 0
LockCall lock call = LockCarried lock (after call)

-- what each case of a result tells
abbrev pub acquire_answer : Result Bool Refusal → Answer
acquire_answer (Ok taken) = flag taken
acquire_answer (Err r) = refused (number r)

abbrev pub release_answer : Result Unit Refusal → Answer
release_answer (Ok done) = ok
release_answer (Err r) = refused (number r)
