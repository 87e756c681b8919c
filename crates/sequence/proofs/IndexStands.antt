-- The index agrees with the book along every sequence of calls from fresh memory. Assumes nothing.
use mathlib.Core.Path.{◌≡◌, refl, sym, ◌∙◌, ap, subst}
use mathlib.Core.Bool.{Bool, true, false}
use mathlib.Core.List.{List, [], ◌∷◌, ◌++◌}
use mathlib.Core.Logic.{◌⊎◌, inl, inr}
use Prim.Native.Nat.{ℕ, max}
use native.Mathlib.Decide.{ℕ_discrete}
use native.Mathlib.Omega.{arith}
use lib.Dec.{leb}
use lib.ListN.{length}
use Rattle.wal_types.specs.declared.Header.{Header}
use Rattle.wal_types.specs.Memory.{Memory, Process, to_header, max_frame_cell, checksum_1_cell, checksum_2_cell, transaction_count_cell, visibility_generation_cell}
use Rattle.wal_types.specs.Store.{Piece, apply, one, when, ◌then◌}
use Rattle.wal_types.specs.Call.{Pair, pair, Answer, Done, after}
use Rattle.header_publish.specs.Publish.{publish_commit}
use Rattle.header_publish.specs.Publish.{next as next_count}
use Rattle.index_find.specs.Index.{index_refusal}
use Rattle.index_record.specs.Record.{record_frame}
use Rattle.index_record.specs.Rollback.{rollback_frames}
use Rattle.index_find.proofs.Settings.{passed_settings, passed_long}
use Rattle.index_record.proofs.Recorded.{record_refused}
use Rattle.index_record.proofs.RolledBack.{rollback_refused}
use Rattle.index_grown.specs.Entries.{entries, entries_found, taken_off}
use Rattle.index_grown.specs.Grown.{Grown, SameIndex}
use Rattle.index_grown.specs.Calls.{RecordLeaves, left_stored, left_dropped, left_refused, RollbackLeaves, left_kept, left_whole, SameReaders}
use Rattle.index_grown.proofs.Starts.{fresh_grown, fresh_entries, same_grown, same_entries}
use Rattle.index_grown.proofs.Records.{record_grown, record_leaves, record_elsewhere}
use Rattle.index_grown.proofs.Rollbacks.{rollback_grown, rollback_leaves, rollback_elsewhere}
use Rattle.sequence.specs.Sequence.{Settings, Op, perform, World, Event, answer_of, next, run, FreshWorld}
use Rattle.sequence.specs.Book.{Book, empty_book, found_pairs, recorded_in, rolled_back_in, entered, book_after}
use Rattle.sequence.proofs.IndexAside.{Untouched, untouched_by}
use Rattle.sequence.proofs.IndexCalls.{ToIndex, records, rolls, publishes, passes_by, to_index}

-- the number by which every call on the index is refused; 0 for none
abbrev pub refusal_of : Settings → Memory → ℕ
refusal_of s m = index_refusal s.capacity s.max_blocks m.header (length m.pages) (length m.frames) (length m.hash)

-- The index stands by the book: its entries are the book's pairs and its published frame is the book's; and it has grown from
-- fresh memory, or every call on it is refused.
pub record Stands (s : Settings) (m : Memory) (b : Book) : Type 0 where
  pub pairs_by_book : entries m ≡ b.pairs
  pub published_by_book : m.header.max_frame ≡ b.published
  pub grown_or_shut : Grown s.capacity s.max_blocks m ⊎ (refusal_of s m ≡ 0 → ⊥)

-- FRESH: an index that is not refused at the start is grown
pub fresh_stands : (s : Settings) (start : ℕ) (w : World) → FreshWorld s start w → Stands s w.memory empty_book
fresh_stands s start w fresh =
    record {
      pairs_by_book = fresh_entries s.capacity s.max_blocks m start s.slots fresh.memory_fresh;
      published_by_book = ap (λ (h : Header). h.max_frame) fresh.memory_fresh.header_fresh;
      grown_or_shut = go (ℕ_discrete (refusal_of s m) 0);
    }
  where
    m : Memory
    m = w.memory

    go : Dec (refusal_of s m ≡ 0) → Grown s.capacity s.max_blocks m ⊎ (refusal_of s m ≡ 0 → ⊥)
    go (yes e) =
        let k : m.header.frame_index_blocks ≡ start = ap (λ (h : Header). h.frame_index_blocks) fresh.memory_fresh.header_fresh in
        let g = passed_settings s.capacity s.max_blocks m.header (length m.pages) (length m.frames) (length m.hash) e in
        let l = passed_long s.capacity s.max_blocks m.header (length m.pages) (length m.frames) (length m.hash) e in
        inl
        (fresh_grown s.capacity s.max_blocks m start s.slots (omega (arith, g.blocks_in_limit)) fresh.memory_fresh
        (record { pages_long = l.pages_long; frames_long = l.frames_long; hash_long = l.hash_long }))
    go (no e) = inr e

module _ (s : Settings) (m : Memory) (b : Book) (stands : Stands s m b) where
  -- the same index under another published number
  pub index_stands : (m' : Memory) (n : ℕ) → SameIndex m m' → m'.header.max_frame ≡ n → Stands s m' (record { pairs = b.pairs; published = n })
  index_stands m' n same e =
      record { pairs_by_book = same_entries m m' same ∙ stands.pairs_by_book; published_by_book = e; grown_or_shut = go stands.grown_or_shut }
    where
      number_same : refusal_of s m' ≡ refusal_of s m
      number_same = rw (same.same_len, same.same_blocks, same.same_pages, same.same_frames, same.same_hash)

      go : Grown s.capacity s.max_blocks m ⊎ (refusal_of s m ≡ 0 → ⊥) → Grown s.capacity s.max_blocks m' ⊎ (refusal_of s m' ≡ 0 → ⊥)
      go (inl g) = inl (same_grown s.capacity s.max_blocks m g m' same)
      go (inr shut) = inr (λ z. shut (sym number_same ∙ z))

  -- OTHER CALLS: nothing of it changes
  pub untouched_stands : (m' : Memory) → Untouched m m' → Stands s m' b
  untouched_stands m' u = index_stands m' b.published u.index_same (u.published_same ∙ stands.published_by_book)

  -- what a record finds is what the book has then
  found_by_book : (frame : ℕ) → entries_found frame m ≡ found_pairs frame b
  found_by_book frame = rw (stands.published_by_book, stands.pairs_by_book)

  -- RECORDS, by their answer
  pub record_stands : (page frame : ℕ) (grow : Bool) (p : Process)
      → Stands s (after (record_frame s.capacity s.max_blocks page frame grow) m p).memory (recorded_in page frame (after (record_frame s.capacity s.max_blocks page frame grow) m p).answer b)
  record_stands page frame grow p = go stands.grown_or_shut
    where
      call_done : Done
      call_done = after (record_frame s.capacity s.max_blocks page frame grow) m p

      by_answer : (a : Answer) (m' : Memory) → Grown s.capacity s.max_blocks m' → SameReaders m m' → RecordLeaves page frame m m' a → Stands s m' (recorded_in page frame a b)
      by_answer a m' g r (left_stored leaves) =
          record { pairs_by_book = leaves ∙ ap (λ (l : List Pair). l ++ (pair page frame ∷ [])) (found_by_book frame); published_by_book = r.same_published ∙ stands.published_by_book; grown_or_shut = inl g }
      by_answer a m' g r (left_dropped leaves) =
          record { pairs_by_book = leaves ∙ found_by_book frame; published_by_book = r.same_published ∙ stands.published_by_book; grown_or_shut = inl g }
      by_answer a m' g r (left_refused same) = subst (λ (x : Memory). Stands s x b) (sym same) stands

      go : Grown s.capacity s.max_blocks m ⊎ (refusal_of s m ≡ 0 → ⊥) → Stands s call_done.memory (recorded_in page frame call_done.answer b)
      go (inl g) =
          by_answer call_done.answer call_done.memory (record_grown s.capacity s.max_blocks page frame grow m p g)
          (record_elsewhere s.capacity s.max_blocks page frame grow m p g)
          (record_leaves s.capacity s.max_blocks page frame grow m p g)
      go (inr shut) =
          subst (λ (d : Done). Stands s d.memory (recorded_in page frame d.answer b))
          (sym (record_refused s.capacity s.max_blocks page frame grow m m.header m.pages m.frames m.hash p (refusal_of s m) refl shut)) stands

  -- ROLLBACKS, by their answer
  pub rollback_stands : (bound : ℕ) (p : Process)
      → Stands s (after (rollback_frames s.capacity s.max_blocks bound) m p).memory (rolled_back_in bound (after (rollback_frames s.capacity s.max_blocks bound) m p).answer b)
  rollback_stands bound p = go stands.grown_or_shut
    where
      call_done : Done
      call_done = after (rollback_frames s.capacity s.max_blocks bound) m p

      by_answer : (a : Answer) (m' : Memory) → Grown s.capacity s.max_blocks m' → SameReaders m m' → RollbackLeaves bound m m' a → Stands s m' (rolled_back_in bound a b)
      by_answer a m' g r (left_kept leaves counted) =
          record { pairs_by_book = leaves ∙ ap (taken_off bound) stands.pairs_by_book; published_by_book = r.same_published ∙ stands.published_by_book; grown_or_shut = inl g }
      by_answer a m' g r (left_whole same) = subst (λ (x : Memory). Stands s x b) (sym same) stands

      go : Grown s.capacity s.max_blocks m ⊎ (refusal_of s m ≡ 0 → ⊥) → Stands s call_done.memory (rolled_back_in bound call_done.answer b)
      go (inl g) =
          by_answer call_done.answer call_done.memory (rollback_grown s.capacity s.max_blocks bound m p g) (rollback_elsewhere s.capacity s.max_blocks bound m p g)
          (rollback_leaves s.capacity s.max_blocks bound m p g)
      go (inr shut) =
          subst (λ (d : Done). Stands s d.memory (rolled_back_in bound d.answer b))
          (sym (rollback_refused s.capacity s.max_blocks bound m m.header m.pages m.frames m.hash p (refusal_of s m) refl shut)) stands

-- COMMITS: the index is the same, and the published frame is raised
pub record Raised (frame : ℕ) (m m' : Memory) : Type 0 where
  pub index_same : SameIndex m m'
  pub published_raised : m'.header.max_frame ≡ max m.header.max_frame frame

pub commit_raises : (frame c1 c2 count : ℕ) (m : Memory) (p : Process) → Raised frame m (after (publish_commit frame c1 c2 count) m p).memory
unfolding publish_commit
commit_raises frame c1 c2 count m p = go (leb m.header.max_frame frame)
  where
    stores : Bool → Piece
    stores t =
        one (to_header max_frame_cell (max m.header.max_frame frame))
        then when t (one (to_header checksum_1_cell c1) then one (to_header checksum_2_cell c2))
        then one (to_header transaction_count_cell (max m.header.transaction_count count))
        then one (to_header visibility_generation_cell (next_count 64 m.header.visibility_generation))

    go : (t : Bool) → Raised frame m (apply (stores t m) m)
    go true = record { index_same = record { same_len = refl; same_blocks = refl; same_pages = refl; same_frames = refl; same_hash = refl }; published_raised = refl }
    go false = record { index_same = record { same_len = refl; same_blocks = refl; same_pages = refl; same_frames = refl; same_hash = refl }; published_raised = refl }

-- EACH CALL: the index stands by the book in which the call is entered
op_stands : (s : Settings) (op : Op) (m : Memory) (p : Process) (b : Book) → Stands s m b → ToIndex s op → Stands s (after (perform s op) m p).memory (entered op (after (perform s op) m p).answer b)
op_stands s op m p b x (records {page} {frame} {grow}) = record_stands s m b x page frame grow p
op_stands s op m p b x (rolls {bound}) = rollback_stands s m b x bound p
op_stands s op m p b x (publishes {frame} {c1} {c2} {count}) =
    let r = commit_raises frame c1 c2 count m p in
    index_stands s m b x _ (max b.published frame) r.index_same (r.published_raised ∙ ap (λ (n : ℕ). max n frame) x.published_by_book)
op_stands s op m p b x (passes_by leaves same) =
    subst (Stands s (after (perform s op) m p).memory) (sym (same (after (perform s op) m p).answer b)) (untouched_stands s m b x _ (untouched_by (perform s op) leaves m p))

pub next_stands : (s : Settings) (e : Event) (w : World) (b : Book) → Stands s w.memory b → Stands s (next s e w).memory (entered e.op (answer_of s e w) b)
next_stands s e w b x = op_stands s e.op w.memory (w.processes e.who) b x (to_index s e.op)

-- EVERY SEQUENCE
pub run_stands : (s : Settings) (events : List Event) (w : World) (b : Book) → Stands s w.memory b → Stands s (run s events w).memory (book_after s events w b)
unfolding run book_after
run_stands s [] w b x = x
run_stands s (e ∷ rest) w b x = run_stands s rest (next s e w) (entered e.op (answer_of s e w) b) (next_stands s e w b x)
