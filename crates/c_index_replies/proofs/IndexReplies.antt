-- The reply of a call that changes the index tells what the call's contract says. Assumes nothing.
use mathlib.Core.Path.{◌≡◌, refl}
use mathlib.Core.List.{List}
use Prim.Native.Nat.{ℕ}
use Rattle.wal_types.specs.declared.Header.{Header}
use Rattle.wal_types.specs.Call.{Call, Answer}
use Rattle.index_find.specs.Index.{IndexCall}
use Rattle.c_index_replies.specs.declared.index_reply.IndexReply.{IndexReply}
use Rattle.c_index_replies.specs.IndexReply.{reply_of, IndexReplied}

pub told : (call : Call) (h g : Header) (ps fs hs ps' fs' hs' : List ℕ) (a : Answer) (r : IndexReply) → IndexCall call h ps fs hs a g ps' fs' hs' → r ≡ reply_of a → IndexReplied call h ps fs hs r g ps' fs' hs'
told call h g ps fs hs ps' fs' hs' a r e i z p =
    rw (e z p, i) (record { refusal_told = refl; answer_told = refl; memory_left = refl; process_left = refl })
