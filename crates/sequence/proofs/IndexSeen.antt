-- While a hold at a mark stands, each call leaves the index up to that mark as it was. Assumes nothing.
use mathlib.Core.Path.{◌≡◌, refl, sym, ◌∙◌, ap, subst}
use mathlib.Core.Bool.{Bool, true, false, ◌&&◌}
use mathlib.Core.List.{List, Memᴰ}
use mathlib.Core.Logic.{◌⊎◌, inl, inr}
use Prim.Native.Nat.{ℕ, ◌≤◌}
use native.Mathlib.Omega.{arith}
use lib.Dec.{eqb}
use borrow.Author.Tests.{ne_eqb}
use Rattle.wal_types.specs.Memory.{Memory, Process}
use Rattle.wal_types.specs.Call.{Pair, Answer, accepted, Done, after}
use Rattle.index_end.specs.Place.{resets}
use Rattle.index_record.specs.Record.{record_frame}
use Rattle.index_record.specs.Rollback.{rollback_frames}
use Rattle.index_record.proofs.Recorded.{record_refused}
use Rattle.index_record.proofs.RolledBack.{rollback_refused}
use Rattle.index_grown.specs.Entries.{entries, up_to}
use Rattle.index_grown.specs.Grown.{Grown, SameIndex}
use Rattle.index_grown.specs.Calls.{RollbackLeaves, left_kept, left_whole}
use Rattle.index_grown.proofs.Starts.{same_entries}
use Rattle.index_grown.proofs.Lists.{up_to_keeps, up_to_only}
use Rattle.index_grown.proofs.Records.{record_elsewhere}
use Rattle.index_grown.proofs.Rollbacks.{rollback_leaves, rollback_elsewhere}
use Rattle.index_grown.proofs.Views.{SameView, record_view, rollback_view}
use Rattle.sequence.specs.Sequence.{Settings, Op, perform, World, Event, by, next}
use Rattle.sequence.specs.Book.{Book, InPairs, here, there}
use Rattle.sequence.specs.Hold.{rolls_back, KeepsAbove}
use Rattle.sequence.proofs.IndexAside.{Untouched, untouched_by}
use Rattle.sequence.proofs.IndexCalls.{ToIndex, records, rolls, publishes, passes_by, to_index}
use Rattle.sequence.proofs.IndexStands.{refusal_of, Stands, commit_raises}
use Rattle.sequence.proofs.ReadersHold.{Pinned}

-- A memory's entries have these pairs up to the mark, and the mark is published.
pub record Seen (mark : ℕ) (es : List Pair) (m : Memory) : Type 0 where
  pub same_view : SameView mark es (entries m)
  pub mark_published : mark ≤ m.header.max_frame

-- What keeps it: the same entries up to the mark, and a published frame that is not lowered.
pub record Keeps (mark : ℕ) (m m' : Memory) : Type 0 where
  pub view_kept : SameView mark (entries m) (entries m')
  pub published_kept : m.header.max_frame ≤ m'.header.max_frame

keeps_itself : (mark : ℕ) (m : Memory) → Keeps mark m m
keeps_itself mark m = record { view_kept = refl; published_kept = omega arith }

index_keeps : (mark : ℕ) (m m' : Memory) → SameIndex m m' → m.header.max_frame ≤ m'.header.max_frame → Keeps mark m m'
index_keeps mark m m' same l = record { view_kept = ap (up_to mark) (same_entries m m' same); published_kept = l }

pub untouched_keeps : (mark : ℕ) (m m' : Memory) → Untouched m m' → Keeps mark m m'
untouched_keeps mark m m' u = let e = u.published_same in index_keeps mark m m' u.index_same (omega arith)

pub still_seen : (mark : ℕ) (es : List Pair) (m m' : Memory) → Seen mark es m → Keeps mark m m' → Seen mark es m'
still_seen mark es m m' seen k = record { same_view = k.view_kept ∙ seen.same_view; mark_published = omega (arith, seen.mark_published, k.published_kept) }

-- a pair with the mark as its frame
pub record AtMark (mark : ℕ) (es : List Pair) : Type 0 where
  pub marked : Pair
  pub is_there : Memᴰ marked es
  pub has_mark : marked.frame ≡ mark

pub at_mark : {mark : ℕ} {es : List Pair} → InPairs mark es → AtMark mark es
at_mark here = record { marked = _; is_there = mathlib.Core.List.Memᴰ.head refl; has_mark = refl }
at_mark (there i) = let x = at_mark i in record { marked = x.marked; is_there = mathlib.Core.List.Memᴰ.tail x.is_there; has_mark = x.has_mark }

-- a published frame above 0: no record resets
no_reset : (frame : ℕ) (m : Memory) → 1 ≤ m.header.max_frame → resets frame m.header ≡ false
no_reset frame m l = rw (ne_eqb m.header.max_frame 0 (λ e. omega arith)) (go (eqb frame 1))
  where
    go : (t : Bool) → (t && false) ≡ false
    go true = refl
    go false = refl

module _ (s : Settings) (mark : ℕ) (least : 1 ≤ mark) (es : List Pair) (at : AtMark mark es) where
  -- the pair at the mark is still there
  still_there : (m : Memory) → Seen mark es m → AtMark mark (entries m)
  still_there m seen =
      let e = at.has_mark in
      let kept_in : Memᴰ at.marked (up_to mark (entries m)) = subst (Memᴰ at.marked) (sym seen.same_view) (up_to_keeps mark es at.marked (omega arith) at.is_there) in
      record { marked = at.marked; is_there = (up_to_only mark (entries m) at.marked kept_in).0; has_mark = e }

  -- RECORDS come above it, and do not reset
  record_keeps : (page frame : ℕ) (grow : Bool) (m : Memory) (p : Process) (b : Book) → Stands s m b → Seen mark es m → Keeps mark m (after (record_frame s.capacity s.max_blocks page frame grow) m p).memory
  record_keeps page frame grow m p b stands seen = go stands.grown_or_shut
    where
      go : Grown s.capacity s.max_blocks m ⊎ (refusal_of s m ≡ 0 → ⊥) → Keeps mark m (after (record_frame s.capacity s.max_blocks page frame grow) m p).memory
      go (inl g) =
          let x = still_there m seen in
          let l = seen.mark_published in
          let e = (record_elsewhere s.capacity s.max_blocks page frame grow m p g).same_published in
          record {
            view_kept = record_view s.capacity s.max_blocks mark m p g page frame grow x.marked x.is_there (omega (arith, x.has_mark)) (no_reset frame m (omega arith));
            published_kept = omega arith;
          }
      go (inr shut) =
          subst (λ (d : Done). Keeps mark m d.memory)
          (sym (record_refused s.capacity s.max_blocks page frame grow m m.header m.pages m.frames m.hash p (refusal_of s m) refl shut)) (keeps_itself mark m)

  -- ROLLBACKS not below the mark leave what is up to it
  rollback_keeps : (bound : ℕ) (m : Memory) (p : Process) (b : Book) → Stands s m b → (accepted (after (rollback_frames s.capacity s.max_blocks bound) m p).answer → mark ≤ bound)
      → Keeps mark m (after (rollback_frames s.capacity s.max_blocks bound) m p).memory
  rollback_keeps bound m p b stands above = go stands.grown_or_shut
    where
      call_done : Done
      call_done = after (rollback_frames s.capacity s.max_blocks bound) m p

      by_answer : Grown s.capacity s.max_blocks m → (a : Answer) → RollbackLeaves bound m call_done.memory a → (accepted a → mark ≤ bound) → SameView mark (entries m) (entries call_done.memory)
      by_answer g a (left_kept leaves counted) l = rollback_view s.capacity s.max_blocks mark m p g bound (l (λ r. elim r [ ]))
      by_answer g a (left_whole same) l = ap (λ (x : Memory). up_to mark (entries x)) same

      go : Grown s.capacity s.max_blocks m ⊎ (refusal_of s m ≡ 0 → ⊥) → Keeps mark m call_done.memory
      go (inl g) =
          let e = (rollback_elsewhere s.capacity s.max_blocks bound m p g).same_published in
          record { view_kept = by_answer g call_done.answer (rollback_leaves s.capacity s.max_blocks bound m p g) above; published_kept = omega arith }
      go (inr shut) =
          subst (λ (d : Done). Keeps mark m d.memory)
          (sym (rollback_refused s.capacity s.max_blocks bound m m.header m.pages m.frames m.hash p (refusal_of s m) refl shut)) (keeps_itself mark m)

  -- EACH CALL made while a hold stands at the mark
  pub next_keeps : (who i : ℕ) (e : Event) (w : World) (b : Book) → Stands s w.memory b → Seen mark es w.memory → Pinned s who i mark e w → KeepsAbove s mark e w → Keeps mark w.memory (next s e w).memory
  next_keeps who i e w b stands seen pinned above = go e.op above (to_index s e.op)
    where
      m : Memory
      m = w.memory

      p : Process
      p = w.processes e.who

      go : (op : Op) → KeepsAbove s mark (by e.who op) w → ToIndex s op → Keeps mark m (after (perform s op) m p).memory
      go op above (records {page} {frame} {grow}) = record_keeps page frame grow m p b stands seen
      go op above (rolls {bound}) = rollback_keeps bound m p b stands (above bound rolls_back)
      go op above (publishes {frame} {c1} {c2} {count}) =
          let r = commit_raises frame c1 c2 count m p in
          let raised = r.published_raised in
          index_keeps mark m _ r.index_same (omega arith)
      go op above (passes_by leaves same) = untouched_keeps mark m _ (untouched_by (perform s op) leaves m p)
