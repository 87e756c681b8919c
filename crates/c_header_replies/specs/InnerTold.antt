-- A lock call's reply by its result. Assumes nothing.
use Rattle.std.specs.Prelude.{Result, Ok, Err, Bool, true, false, ℕ}
use Rattle.wal_types.specs.declared.refusal.Refusal.{Refusal}
use Rattle.wal_types.specs.Refusal.{number}
use Rattle.c_header_replies.specs.declared.lock_reply.LockReply.{LockReply}

-- 1 for a lock that was taken or released, else 0; and the local owner that is left
abbrev pub lock_told : Result Bool Refusal → ℕ → LockReply
lock_told (Ok true) local = record { refusal = 0; answer = 1; local_owner = local }
lock_told (Ok false) local = record { refusal = 0; answer = 0; local_owner = local }
lock_told (Err r) local = record { refusal = number r; answer = 0; local_owner = local }
