-- The reply of a lookup and of a list tells what the call's contract says. Assumes nothing.
use mathlib.Core.Path.{◌≡◌, refl}
use mathlib.Core.List.{List}
use Prim.Native.Nat.{ℕ}
use Rattle.wal_types.specs.declared.Header.{Header}
use Rattle.wal_types.specs.Memory.{Memory, Process}
use Rattle.wal_types.specs.Call.{Call, Answer, Done}
use Rattle.std.specs.Prelude.{Result, Ok, Err}
use Rattle.wal_types.specs.declared.refusal.Refusal.{Refusal}
use Rattle.list_latest.specs.InnerResult.{Lists}
use Rattle.index_find.specs.Index.{IndexCall, IndexNumber, index_in}
use Rattle.c_index_replies.specs.declared.lookup_reply.FindReply.{FindReply}
use Rattle.c_index_replies.specs.declared.lookup_reply.ListReply.{ListReply}
use Rattle.c_index_replies.specs.LookupReply.{find_reply, list_reply}
use Rattle.c_index.specs.LookupReplied.{FindTold, FindReplied, ListTold, ListReplied}

find_told_by : (r : FindReply) (cells : ℕ) (z : Memory) (h : Header) (ps fs hs : List ℕ) (p : Process) {d e : Done} → d ≡ e → FindTold r cells z h ps fs hs p e → FindTold r cells z h ps fs hs p d
find_told_by r cells z h ps fs hs p q t = rw q t

module _ (call : Call) (number_of : Memory → ℕ) (h : Header) (ps fs hs : List ℕ) where
  pub find_told : (a : Answer) (cells : ℕ) → IndexCall call h ps fs hs a h ps fs hs → IndexNumber number_of h ps fs hs cells → FindReplied call number_of h ps fs hs (find_reply a cells)
  find_told a cells e n z p =
      find_told_by _ _ z h _ _ _ p (e z p) (record { refusal_told = refl; found_told = refl; frame_told = refl; cells_told = n z; memory_left = refl; process_left = refl })

list_told_by : (r : ListReply) (z : Memory) (h : Header) (ps fs hs : List ℕ) (p : Process) (op of np nf : List ℕ) {d e : Done} → d ≡ e → ListTold r z h ps fs hs p op of np nf e → ListTold r z h ps fs hs p op of np nf d
list_told_by r z h ps fs hs p op of np nf q t = rw q t

pub list_told : (call : Call) (h : Header) (ps fs hs op of np nf : List ℕ) (a : Result ℕ Refusal) → ((z : Memory) (p : Process) → Lists call (index_in z h ps fs hs) p a op of np nf) → ListReplied call h ps fs hs (list_reply a) op of np nf
list_told call h ps fs hs op of np nf (Ok n) e z p =
    let l = e z p in
    list_told_by _ z h ps fs hs p op of np nf l.answered (record { refusal_told = refl; count_told = l.count; pages_written = l.pages_written; frames_written = l.frames_written; memory_left = refl; process_left = refl })
list_told call h ps fs hs op of np nf (Err r) e z p =
    let l = e z p in
    list_told_by _ z h ps fs hs p op of np nf l.answered (record { refusal_told = refl; count_told = refl; pages_written = l.pages_kept; frames_written = l.frames_kept; memory_left = refl; process_left = refl })
