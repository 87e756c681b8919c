-- The reply of a search tells what the call's contract says. Assumes nothing.
use mathlib.Core.Path.{◌≡◌, refl}
use mathlib.Core.List.{List}
use Prim.Native.Nat.{ℕ}
use native.Mathlib.Omega.{arith}
use Rattle.wal_types.specs.declared.Header.{Header}
use Rattle.wal_types.specs.Memory.{Memory, Process}
use Rattle.wal_types.specs.Call.{Pair, Call, Answer, Done}
use Rattle.std.specs.Prelude.{Option, Some, None, Result, Ok, Err}
use Rattle.wal_types.specs.declared.refusal.Refusal.{Refusal}
use Rattle.index_find.specs.Index.{EntriesCall}
use Rattle.index_scan.specs.Scan.{scan_answer}
use Rattle.index_scan.specs.Between.{BetweenTold}
use Rattle.c_index_replies.specs.declared.search_reply.FrameReply.{FrameReply}
use Rattle.c_index_replies.specs.InnerSearchReply.{frame_reply}
use Rattle.c_index.specs.SearchReplied.{FrameTold, FrameReplied, BetweenReplied}

frame_told_by : (r : FrameReply) (z : Memory) (h : Header) (ps fs : List ℕ) (p : Process) {d e : Done} → d ≡ e → FrameTold r z h ps fs p e → FrameTold r z h ps fs p d
frame_told_by r z h ps fs p q t = rw q t

pub frame_told : (call : Call) (h : Header) (ps fs : List ℕ) (a : Answer) → EntriesCall call h ps fs a → FrameReplied call h ps fs (frame_reply a)
frame_told call h ps fs a e z p =
    frame_told_by _ z h _ _ p (e z p) (record { refusal_told = refl; found_told = refl; frame_told = refl; memory_left = refl; process_left = refl })

-- the search between two frames, by its result
pub between_told : (es : List Pair) (page low high : ℕ) (a : Result (Option ℕ) Refusal) → BetweenTold es page low high a → BetweenReplied es page low high (frame_reply (scan_answer a))
between_told es page low high (Ok (Some f)) is = record { frame_is_between = λ e. is; none_is_between = λ e z f i. absurd (omega (arith, z)) }
between_told es page low high (Ok None) none = record { frame_is_between = λ e. absurd (omega (arith, e)); none_is_between = λ e z. none }
between_told es page low high (Err r) told = record { frame_is_between = λ e. absurd (omega (arith, e)); none_is_between = λ e z. absurd (told e) }
