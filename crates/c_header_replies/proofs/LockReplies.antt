-- The reply of a lock call tells what the call's contract says. Assumes nothing.
use mathlib.Core.Path.{◌≡◌, refl}
use Prim.Native.Nat.{ℕ}
use Rattle.wal_types.specs.declared.Header.{Header}
use Rattle.wal_types.specs.Call.{Call, Answer}
use Rattle.header_locks.specs.declared.Lock.{Lock}
use Rattle.header_locks.specs.Locks.{LockCall}
use Rattle.c_numbers.specs.Reply.{refusal_number, answer_number}
use Rattle.c_header_replies.specs.declared.lock_reply.LockReply.{LockReply}
use Rattle.c_header_replies.specs.LockReply.{LockReplied}

-- the header left is g, which the call's contract speaks of
pub told : (lock : Lock) (call : Call) (h g k : Header) (o o' : ℕ) (a : Answer) (r : LockReply) → LockCall lock call h o a g o' → k ≡ g → r ≡ record { refusal = refusal_number a; answer = answer_number a; local_owner = o' } → LockReplied lock call h o k r
told lock call h g k o o' a r e s i z p =
    rw (e z p, i, s) (record { refusal_told = refl; answer_told = refl; memory_left = refl; process_left = refl })
