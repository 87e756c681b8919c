-- The replies of a lookup and of a list, and a watermark read from numbers. Assumes nothing.
use Rattle.std.specs.Prelude.{Option, Some, None, Result, Ok, Err, cond, ℕ, eqb}
use Rattle.wal_types.specs.Call.{Answer}
use Rattle.wal_types.specs.declared.refusal.Refusal.{Refusal}
use Rattle.wal_types.specs.Refusal.{number}
use Rattle.c_numbers.specs.Reply.{refusal_number, answer_number, found_number}
use Rattle.c_index_replies.specs.declared.lookup_reply.FindReply.{FindReply}
use Rattle.c_index_replies.specs.declared.lookup_reply.ListReply.{ListReply}

-- a lookup's answer in numbers, with the cells that it looked at
abbrev pub find_reply : Answer → ℕ → FindReply
find_reply a cells = record { refusal = refusal_number a; found = found_number a; frame = answer_number a; cells = cells }

-- The reply of each case of a list's result.
abbrev pub list_reply : Result ℕ Refusal → ListReply
list_reply (Ok n) = record { refusal = 0; count = n }
list_reply (Err r) = record { refusal = number r; count = 0 }

-- The watermark of two numbers: none if the first is 0.
unfoldable pub watermark_given : ℕ → ℕ → Option ℕ
watermark_given has w = cond (eqb has 0) None (Some w)
