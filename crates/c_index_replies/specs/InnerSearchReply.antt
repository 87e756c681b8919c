-- The reply of a search over the entries. Assumes nothing.
use Rattle.wal_types.specs.Call.{Answer}
use Rattle.c_numbers.specs.Reply.{refusal_number, answer_number, found_number}
use Rattle.c_index_replies.specs.declared.search_reply.FrameReply.{FrameReply}

-- a search's answer in numbers
abbrev pub frame_reply : Answer → FrameReply
frame_reply a = record { refusal = refusal_number a; found = found_number a; frame = answer_number a }
