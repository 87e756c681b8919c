-- Answers as numbers, for callers in C and Rust. Assumes nothing.
use Rattle.std.specs.Prelude.{true, false, ℕ, length}
use Rattle.wal_types.specs.Call.{Answer, refused, ok, flag, value, stored, dropped, kept, frame_found, none, listed, slot_taken, if_refused, if_frame}

-- 0 for an accepted call, else the refusal's number
abbrev pub refusal_number : Answer → ℕ
refusal_number a = if_refused (λ n. n) 0 a

-- the answer itself: 0 after a refusal
abbrev pub answer_number : Answer → ℕ
answer_number (refused n) = 0
answer_number ok = 1
answer_number (flag true) = 1
answer_number (flag false) = 0
answer_number (value n) = n
answer_number stored = 1
answer_number dropped = 0
answer_number (kept n) = n
answer_number (frame_found f) = f
answer_number none = 0
answer_number (listed pairs) = length pairs
answer_number (slot_taken i o mark) = i

-- 1 where a frame was found
abbrev pub found_number : Answer → ℕ
found_number a = if_frame (λ f. 1) 0 a
