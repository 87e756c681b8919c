-- What the C functions of a lookup and of a list promise. Assumes nothing.
use Rattle.std.specs.Prelude.{◌≡◌, List, ◌++◌, map, ℕ, length, drop}
use Rattle.wal_types.specs.declared.Header.{Header}
use Rattle.wal_types.specs.Memory.{Memory, Process}
use Rattle.wal_types.specs.Call.{Pair, Call, Answer, if_listed, Done, after}
use Rattle.index_find.specs.Index.{index_in}
use Rattle.c_numbers.specs.Reply.{refusal_number, answer_number, found_number}
use Rattle.c_index_replies.specs.declared.lookup_reply.FindReply.{FindReply}
use Rattle.c_index_replies.specs.declared.lookup_reply.ListReply.{ListReply}

-- A lookup's reply, on any memory with this header and index in it, by any process; nothing changes. The cells looked at are
-- decided too, of a refused lookup as well.
pub record FindTold (r : FindReply) (cells : ℕ) (z : Memory) (h : Header) (ps fs hs : List ℕ) (p : Process) (d : Done) : Type 0 where
  pub refusal_told : r.refusal ≡ refusal_number d.answer
  pub found_told : r.found ≡ found_number d.answer
  pub frame_told : r.frame ≡ answer_number d.answer
  pub cells_told : r.cells ≡ cells
  pub memory_left : d.memory ≡ index_in z h ps fs hs
  pub process_left : d.process ≡ p

abbrev pub FindReplied : Call → (Memory → ℕ) → Header → List ℕ → List ℕ → List ℕ → FindReply → Type 0
FindReplied call cells h ps fs hs r =
    (z : Memory) (p : Process) → FindTold r (cells (index_in z h ps fs hs)) z h ps fs hs p (after call (index_in z h ps fs hs) p)

-- Output cells after an answer: the pairs' pages, or frames, and then the cells as they were; nothing where there is no list.
abbrev pub written : (Pair → ℕ) → Answer → List ℕ → List ℕ
written part a old = if_listed (λ pairs. map part pairs ++ drop (length pairs) old) old a

-- A list's reply and output cells, on any memory with this header and index in it, by any process; nothing else changes.
pub record ListTold (r : ListReply) (z : Memory) (h : Header) (ps fs hs : List ℕ) (p : Process) (old_pages old_frames new_pages new_frames : List ℕ) (d : Done) : Type 0 where
  pub refusal_told : r.refusal ≡ refusal_number d.answer
  pub count_told : r.count ≡ answer_number d.answer
  pub pages_written : new_pages ≡ written (λ q. q.page) d.answer old_pages
  pub frames_written : new_frames ≡ written (λ q. q.frame) d.answer old_frames
  pub memory_left : d.memory ≡ index_in z h ps fs hs
  pub process_left : d.process ≡ p

abbrev pub ListReplied : Call → Header → List ℕ → List ℕ → List ℕ → ListReply → List ℕ → List ℕ → List ℕ → List ℕ → Type 0
ListReplied call h ps fs hs r old_pages old_frames new_pages new_frames =
    (z : Memory) (p : Process) → ListTold r z h ps fs hs p old_pages old_frames new_pages new_frames (after call (index_in z h ps fs hs) p)
