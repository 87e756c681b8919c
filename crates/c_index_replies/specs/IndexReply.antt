-- The replies of the calls that change the index. Assumes nothing.
use Rattle.std.specs.Prelude.{◌≡◌, List, ℕ}
use Rattle.wal_types.specs.declared.Header.{Header}
use Rattle.wal_types.specs.Memory.{Memory, Process}
use Rattle.wal_types.specs.Call.{Call, Answer, Done, after}
use Rattle.index_find.specs.Index.{index_in}
use Rattle.c_index_replies.specs.declared.index_reply.IndexReply.{IndexReply}
use Rattle.c_numbers.specs.Reply.{refusal_number, answer_number}

-- an answer in numbers
abbrev pub reply_of : Answer → IndexReply
reply_of a = record { refusal = refusal_number a; answer = answer_number a }

-- The reply tells what the call answers, the header and index are as it leaves them, and nothing else changes.
pub record Told (r : IndexReply) (z : Memory) (h : Header) (ps fs hs : List ℕ) (p : Process) (d : Done) : Type 0 where
  pub refusal_told : r.refusal ≡ refusal_number d.answer
  pub answer_told : r.answer ≡ answer_number d.answer
  pub memory_left : d.memory ≡ index_in z h ps fs hs
  pub process_left : d.process ≡ p

-- So it is on any memory with this header and index in it, by any process.
abbrev pub IndexReplied : Call → Header → List ℕ → List ℕ → List ℕ → IndexReply → Header → List ℕ → List ℕ → List ℕ → Type 0
IndexReplied call h ps fs hs r h' ps' fs' hs' =
    (z : Memory) (p : Process) → Told r z h' ps' fs' hs' p (after call (index_in z h ps fs hs) p)
