-- What the C functions of the searches over the entries promise. Assumes nothing.
use Rattle.std.specs.Prelude.{◌≡◌, List, ℕ}
use Rattle.wal_types.specs.declared.Header.{Header}
use Rattle.wal_types.specs.Memory.{Memory, Process}
use Rattle.wal_types.specs.Call.{Pair, Call, Done, after}
use Rattle.index_find.specs.Index.{entries_in}
use Rattle.index_scan.specs.Between.{IsBetween}
use Rattle.c_numbers.specs.Reply.{refusal_number, answer_number, found_number}
use Rattle.c_index_replies.specs.declared.search_reply.FrameReply.{FrameReply}

-- A search's reply, on any memory with this header and these entries in it, whatever the hash holds, by any process; nothing
-- changes.
pub record FrameTold (r : FrameReply) (z : Memory) (h : Header) (ps fs : List ℕ) (p : Process) (d : Done) : Type 0 where
  pub refusal_told : r.refusal ≡ refusal_number d.answer
  pub found_told : r.found ≡ found_number d.answer
  pub frame_told : r.frame ≡ answer_number d.answer
  pub memory_left : d.memory ≡ entries_in z h ps fs
  pub process_left : d.process ≡ p

abbrev pub FrameReplied : Call → Header → List ℕ → List ℕ → FrameReply → Type 0
FrameReplied call h ps fs r = (z : Memory) (p : Process) → FrameTold r z h ps fs p (after call (entries_in z h ps fs) p)

-- What a reply of the search between two frames tells whatever the choice: a frame of the page between them, or none exactly when
-- there is none.
pub record BetweenReplied (es : List Pair) (page low high : ℕ) (r : FrameReply) : Type 0 where
  pub frame_is_between : r.found ≡ 1 → IsBetween es page low high r.frame
  pub none_is_between : r.refusal ≡ 0 → r.found ≡ 0 → (f : ℕ) → IsBetween es page low high f → ⊥
