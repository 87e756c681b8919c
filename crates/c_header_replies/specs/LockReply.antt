-- The lock calls' replies. Assumes nothing.
use Rattle.std.specs.Prelude.{◌≡◌, ℕ}
use Rattle.wal_types.specs.declared.Header.{Header}
use Rattle.wal_types.specs.Memory.{Memory, Process, with_header}
use Rattle.wal_types.specs.Call.{Call, Done, after}
use Rattle.header_locks.specs.declared.Lock.{Lock}
use Rattle.header_locks.specs.Locks.{with_local_owner}
use Rattle.c_header_replies.specs.declared.lock_reply.LockReply.{LockReply}
use Rattle.c_numbers.specs.Reply.{refusal_number, answer_number}

-- The reply tells what the call answers, the header is as it leaves it, and nothing else changes.
pub record Told (lock : Lock) (h : Header) (r : LockReply) (z : Memory) (p : Process) (d : Done) : Type 0 where
  pub refusal_told : r.refusal ≡ refusal_number d.answer
  pub answer_told : r.answer ≡ answer_number d.answer
  pub memory_left : d.memory ≡ with_header z h
  pub process_left : d.process ≡ with_local_owner lock r.local_owner p

-- So it is on any memory with the header h in it, by any process with the local owner o: the header becomes h'.
abbrev pub LockReplied : Lock → Call → Header → ℕ → Header → LockReply → Type 0
LockReplied lock call h o h' r =
    (z : Memory) (p : Process) → Told lock h' r z p (after call (with_header z h) (with_local_owner lock o p))
