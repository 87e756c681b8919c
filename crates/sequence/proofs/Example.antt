-- The sequence of specs/Example: the memory after each call in closed form, the premises of demand 3, and the answers. Assumes nothing.
use Rattle.std.specs.Prelude.{Some}
use mathlib.Core.Path.{◌≡◌, refl, sym, ◌∙◌, ap, subst}
use mathlib.Core.Bool.{false}
use mathlib.Core.List.Memᴰ
use mathlib.Core.List.{List, [], ◌∷◌, ◌++◌, Memᴰ}
use mathlib.Core.Logic.{inl, inr}
use Prim.Native.Nat.{ℕ, zero, suc, ◌<◌, ◌≤◌}
use native.Mathlib.Decide.{ℕ_discrete}
use native.Mathlib.Omega.{arith}
use lib.ListN.{length, get_or, length-replicate, get_or-replicate, length-map}
use borrow.Author.Tests.{ne_eqb}
use Rattle.std.specs.Prelude.{Some, None}
use Rattle.wal_types.specs.declared.Header.{Header}
use Rattle.wal_types.specs.declared.SharedWalOwnershipMode.TheVariants.{LinuxOfd}
use Rattle.wal_types.specs.Settings.{unused}
use Rattle.wal_types.specs.Memory.{Memory, Process, with_header, with_local_readers, with_registry, no_mark, blank_process, slot_bit, bit_at, header_with, frame_index_len_cell, max_frame_cell, nbackfills_cell, transaction_count_cell, visibility_generation_cell}
use Rattle.wal_types.specs.Call.{Pair, pair, Answer, refused, ok, value, stored, kept, frame_found, listed, slot_taken, accepted, Done, done, after}
use Rattle.word_bits.specs.Bit.{clear_bit}
use Rattle.header_publish.specs.Publish.{publish_commit, publish_backfill}
use Rattle.wal_types.specs.Fresh.{fresh_header}
use Rattle.index_end.specs.declared.cells.IndexCells.{IndexCells}
use Rattle.index_end.specs.Cells.{cells_of}
use Rattle.index_hash.specs.Block.{built}
use Rattle.index_find.specs.Index.{index_refusal, block_pages_of, with_block, index_in}
use Rattle.index_end.specs.Place.{started, placed, out_of_order}
use Rattle.index_end.specs.Kept.{kept_of}
use Rattle.index_record.specs.Record.{record_frame}
use Rattle.index_record.specs.Rollback.{kept_len, rollback_frames}
use Rattle.index_find.specs.Find.{lookup_answer, find_frame}
use Rattle.index_record.proofs.RolledBack.{rollback_odd}
use Rattle.list_latest.specs.Latest.{listed_entries, pairs_of, iter_latest_frames}
use Rattle.reader_slots.specs.Slots.{slots_in, locals_in, byte_above, is_in_registry, empty_slots}
use Rattle.reader_slots.specs.Search.{lowest_slot, some_slot}
use Rattle.reader_register.specs.Register.{register_reader}
use Rattle.reader_moves.specs.Update.{unregister_reader}
use Rattle.reader_floor.specs.Floor.{floor_from, min_active_reader_frame}
use Rattle.reader_limit.specs.Limit.{copy_back_limit}
use Rattle.reader_marks.specs.Registry.{first_record}
use Rattle.reader_shared.specs.Shared.{register_reader_for_snapshot, unregister_reader_for_snapshot}
use Rattle.index_grown.specs.Entries.{entries, greatest, taken_off, up_to}
use Rattle.index_grown.specs.Grown.{LongMemory, Grown}
use Rattle.index_grown.specs.Listed.{IsListOf}
use Rattle.index_grown.proofs.Starts.{fresh_grown, same_grown}
use Rattle.index_grown.proofs.Records.{with_entry, stores, entry_grown}
use Rattle.index_grown.proofs.Rollbacks.{rollback_grown}
use Rattle.index_grown.proofs.Answers.{grown_accepted, find_done, list_done}
use Rattle.index_grown.proofs.Listed.{list_gives}
use Rattle.index_grown.proofs.Unique.{listed_once}
use Rattle.index_grown.proofs.Views.{view_listed}
use Rattle.index_find.proofs.Settings.{entries_accepted}
use Rattle.index_scan.specs.Between.{frames_between, chosen, frame_chosen, frame_between}
use Rattle.index_scan.proofs.Scanned.{scan_answers}
use Rattle.sequence.specs.Sequence.{find_op, rollback_op, look_op, index_op, World, Event, answer_of, next, run, FreshWorld, Throughout}
use Rattle.sequence.specs.Book.{Book, empty_book, book_after, InPairs, here, there}
use Rattle.sequence.specs.Hold.{holders_after, direct, shared, begins_direct, begins_shared, SharedLasts, EndsDirect, RollsBack, rolls_back, KeepsAbove, SameSlot, LeavesSlot}
use Rattle.sequence.specs.Statement.{at_now, Premises, Demand3}
use Rattle.sequence.specs.DbFileHold.{present, FilePremises, DbFileHoldsBack}
use Rattle.sequence.specs.Example.{small, zeros, fresh_memory, fresh_process, fresh_world, reader, before, begin, during, Held, answered, lookup, listing, search, floor, limit, begin_shared, during_shared, own_floor, begin_file, during_file, Example}
use Rattle.sequence.proofs.IndexStands.{fresh_stands, run_stands}
use Rattle.sequence.proofs.Trace.{left_by, ComesTo, Trace, over, step, append, trace_run, trace_answers, trace_book, trace_lasts, throughout}
use Rattle.sequence.proofs.Demand3.{demand_3}
use Rattle.sequence.proofs.DbFileHold.{db_file_holds_back}

-- FRESH
fresh_long : LongMemory 1 fresh_memory
unfolding zeros
fresh_long =
    let p = length-replicate {A = ℕ} 4096 0 in
    let h = length-replicate {A = ℕ} 8192 0 in
    record { pages_long = omega arith; frames_long = omega arith; hash_long = omega arith }

-- what is true of the two slots is true of each
both : (P : ℕ → Type 0) → P 0 → P 1 → (i : ℕ) → i < 2 → P i
both P a b zero l = a
both P a b (suc zero) l = b
both P a b (suc (suc i)) l = absurd (omega arith)

fresh : FreshWorld small 1 fresh_world
unfolding zeros bit_at
fresh =
    record {
      memory_fresh =
          record {
            c1 = 0;
            c2 = 0;
            header_fresh = refl;
            hash_empty = λ i l. get_or-replicate {A = ℕ} 8192 i 0 0 (omega arith);
            bits_free = both (λ i. slot_bit (3 ∷ []) i ≡ 1) refl refl;
            frames_unused = both (λ i. get_or (unused ∷ unused ∷ []) i unused ≡ unused) refl refl;
            owners_none = both (λ i. get_or {A = ℕ} (0 ∷ 0 ∷ []) i 0 ≡ 0) refl refl;
          };
      processes_fresh = λ who.
          record {
            readers_none = both (λ i. get_or {A = ℕ} (0 ∷ 0 ∷ []) i 0 ≡ 0) refl refl;
            writer_none = refl;
            checkpoint_none = refl;
            registry_empty = both _ refl refl;
          };
    }

-- a header with so many entries, a published frame and so many publishes
abbrev header_of : ℕ → ℕ → ℕ → Header
header_of len published count =
    header_with frame_index_len_cell len (header_with max_frame_cell published (header_with transaction_count_cell count (header_with visibility_generation_cell count (fresh_header 1 0 0))))

-- the index's cells with so many entries, and the published frame
abbrev cells_at : ℕ → ℕ → IndexCells
cells_at len published = cells_of (header_of len published 0)

-- a record above the last frame is stored at the end
module _ (page frame : ℕ) (m : Memory) (g : Grown 4096 1 m) (h : IndexCells) (end : placed 4096 1 false (started frame m.header) ≡ Some h) (order : out_of_order frame h.frame_index_len m.frames ≡ false) where
  is_stored : (p : Process) → after (record_frame 4096 1 page frame false) m p ≡ done stored (with_entry page frame m h) p
  is_stored p = stores 4096 1 page frame false m p g h end (grown_accepted 4096 1 m g refl refl) order

  stays_grown : Grown 4096 1 (with_entry page frame m h)
  stays_grown = entry_grown 4096 1 page frame false m fresh_process g h end (grown_accepted 4096 1 m g refl refl) order

-- BEFORE THE HOLD: (7, 1), (8199, 2) and (7, 3) are recorded, and 3 is published
abbrev m1 : Memory
m1 = with_entry 7 1 fresh_memory (cells_at 0 0)

abbrev m2 : Memory
m2 = with_entry 8199 2 m1 (cells_at 1 0)

abbrev m3 : Memory
m3 = with_entry 7 3 m2 (cells_at 2 0)

abbrev m4 : Memory
m4 = with_header m3 (header_of 3 3 1)

g0 : Grown 4096 1 fresh_memory
g0 = fresh_grown 4096 1 fresh_memory 1 2 (omega arith) fresh.memory_fresh fresh_long

end1 : placed 4096 1 false (started 1 fresh_memory.header) ≡ Some (cells_at 0 0)
unfolding placed started
end1 = refl

g1 : Grown 4096 1 m1
g1 = stays_grown 7 1 fresh_memory g0 (cells_at 0 0) end1 refl

end2 : placed 4096 1 false (started 2 m1.header) ≡ Some (cells_at 1 0)
unfolding placed started
end2 = refl

order2 : out_of_order 2 1 m1.frames ≡ false
unfolding zeros
order2 = refl

g2 : Grown 4096 1 m2
g2 = stays_grown 8199 2 m1 g1 (cells_at 1 0) end2 order2

end3 : placed 4096 1 false (started 3 m2.header) ≡ Some (cells_at 2 0)
unfolding placed started
end3 = refl

order3 : out_of_order 3 2 m2.frames ≡ false
unfolding zeros
order3 = refl

g3 : Grown 4096 1 m3
g3 = stays_grown 7 3 m2 g2 (cells_at 2 0) end3 order3

g4 : Grown 4096 1 m4
g4 = same_grown 4096 1 m3 g3 m4 (record { same_len = refl; same_blocks = refl; same_pages = refl; same_frames = refl; same_hash = refl })

commit4 : (p : Process) → after (publish_commit 3 0 0 1) m3 p ≡ done ok m4 p
unfolding publish_commit
commit4 p = refl

abbrev w1 : World
w1 = left_by fresh_world 1 (done stored m1 fresh_process)

abbrev w2 : World
w2 = left_by w1 1 (done stored m2 fresh_process)

abbrev w3 : World
w3 = left_by w2 1 (done stored m3 fresh_process)

abbrev w4 : World
w4 = left_by w3 1 (done ok m4 fresh_process)

trace_before : Trace small before fresh_world (stored ∷ stored ∷ stored ∷ ok ∷ []) w4
trace_before =
    step (done stored m1 fresh_process) (is_stored 7 1 fresh_memory g0 (cells_at 0 0) end1 refl fresh_process)
    (step (done stored m2 fresh_process) (is_stored 8199 2 m1 g1 (cells_at 1 0) end2 order2 fresh_process)
    (step (done stored m3 fresh_process) (is_stored 7 3 m2 g2 (cells_at 2 0) end3 order3 fresh_process)
    (step (done ok m4 fresh_process) (commit4 fresh_process) over)))

-- THE HOLD BEGINS: slot 0 is taken for owner 10 at mark 3
abbrev m5 : Memory
m5 = slots_in m4 (2 ∷ []) (3 ∷ unused ∷ []) (10 ∷ 0 ∷ [])

abbrev holder : Process
holder = locals_in fresh_process (10 ∷ 0 ∷ [])

register5 : after (register_reader 2 LinuxOfd 10 3 (1 ∷ 1 ∷ [])) m4 fresh_process ≡ done (slot_taken 0 10 3) m5 holder
unfolding register_reader byte_above lowest_slot bit_at clear_bit
register5 = refl

abbrev w5 : World
w5 = left_by w4 0 (done (slot_taken 0 10 3) m5 holder)

g5 : Grown 4096 1 m5
g5 = same_grown 4096 1 m4 g4 m5 (record { same_len = refl; same_blocks = refl; same_pages = refl; same_frames = refl; same_hash = refl })

-- DURING THE HOLD: a release by the other process is refused; (9, 4), (7, 5) and (8199, 6) are recorded, the last is taken back, and 5 is published
release6 : after (unregister_reader 2 LinuxOfd 0 10) m5 fresh_process ≡ done (refused 7) m5 fresh_process
unfolding unregister_reader is_in_registry
release6 = refl

abbrev m7 : Memory
m7 = with_entry 9 4 m5 (cells_at 3 3)

abbrev m8 : Memory
m8 = with_entry 7 5 m7 (cells_at 4 3)

abbrev m9 : Memory
m9 = with_entry 8199 6 m8 (cells_at 5 3)

abbrev m10 : Memory
m10 = index_in m9 (header_of 5 3 1) m9.pages m9.frames (with_block 0 (built (block_pages_of 0 m9.pages) 5) m9.hash)

abbrev m11 : Memory
m11 = with_header m10 (header_of 5 5 2)

end7 : placed 4096 1 false (started 4 m5.header) ≡ Some (cells_at 3 3)
unfolding placed started
end7 = refl

order7 : out_of_order 4 3 m5.frames ≡ false
unfolding zeros
order7 = refl

g7 : Grown 4096 1 m7
g7 = stays_grown 9 4 m5 g5 (cells_at 3 3) end7 order7

end8 : placed 4096 1 false (started 5 m7.header) ≡ Some (cells_at 4 3)
unfolding placed started
end8 = refl

order8 : out_of_order 5 4 m7.frames ≡ false
unfolding zeros
order8 = refl

g8 : Grown 4096 1 m8
g8 = stays_grown 7 5 m7 g7 (cells_at 4 3) end8 order8

end9 : placed 4096 1 false (started 6 m8.header) ≡ Some (cells_at 5 3)
unfolding placed started
end9 = refl

order9 : out_of_order 6 5 m8.frames ≡ false
unfolding zeros
order9 = refl

g9 : Grown 4096 1 m9
g9 = stays_grown 8199 6 m8 g8 (cells_at 5 3) end9 order9

kept10 : 5 ≡ kept_len 5 m9
unfolding zeros kept_of
kept10 = refl

rollback10 : (p : Process) → after (rollback_frames 4096 1 5) m9 p ≡ done (kept 5) m10 p
rollback10 p =
    let l = g9.long.hash_long in
    rollback_odd 4096 1 5 m9 m9.header m9.pages m9.frames m9.hash p (grown_accepted 4096 1 m9 g9 refl refl) 5 kept10 (omega arith) (λ e. let z : ◌≡◌ {A = ℕ} 5 0 = e in omega arith) (omega arith)

g10 : Grown 4096 1 m10
g10 = subst (λ (d : Done). Grown 4096 1 d.memory) (rollback10 fresh_process) (rollback_grown 4096 1 5 m9 fresh_process g9)

commit11 : (p : Process) → after (publish_commit 5 0 0 2) m10 p ≡ done ok m11 p
unfolding publish_commit
commit11 p = refl

g11 : Grown 4096 1 m11
g11 = same_grown 4096 1 m10 g10 m11 (record { same_len = refl; same_blocks = refl; same_pages = refl; same_frames = refl; same_hash = refl })

abbrev w6 : World
w6 = left_by w5 1 (done (refused 7) m5 fresh_process)

abbrev w7 : World
w7 = left_by w6 1 (done stored m7 fresh_process)

abbrev w8 : World
w8 = left_by w7 1 (done stored m8 fresh_process)

abbrev w9 : World
w9 = left_by w8 1 (done stored m9 fresh_process)

abbrev w10 : World
w10 = left_by w9 1 (done (kept 5) m10 fresh_process)

abbrev w11 : World
w11 = left_by w10 1 (done ok m11 fresh_process)

trace_during : Trace small during w5 (refused 7 ∷ stored ∷ stored ∷ stored ∷ kept 5 ∷ ok ∷ []) w11
trace_during =
    step (done (refused 7) m5 fresh_process) release6
    (step (done stored m7 fresh_process) (is_stored 9 4 m5 g5 (cells_at 3 3) end7 order7 fresh_process)
    (step (done stored m8 fresh_process) (is_stored 7 5 m7 g7 (cells_at 4 3) end8 order8 fresh_process)
    (step (done stored m9 fresh_process) (is_stored 8199 6 m8 g8 (cells_at 5 3) end9 order9 fresh_process)
    (step (done (kept 5) m10 fresh_process) (rollback10 fresh_process)
    (step (done ok m11 fresh_process) (commit11 fresh_process) over)))))

-- the worlds of the statement
begins_in : run small before fresh_world ≡ w4
begins_in = trace_run small trace_before

holds_in : next small begin (run small before fresh_world) ≡ w5
holds_in = ap (next small begin) begins_in ∙ ap (left_by w4 0) register5

now_in : run small during (next small begin (run small before fresh_world)) ≡ w11
now_in = ap (run small during) holds_in ∙ trace_run small trace_during

trace_all : Trace small (before ++ (begin ∷ during)) fresh_world (stored ∷ stored ∷ stored ∷ ok ∷ slot_taken 0 10 3 ∷ refused 7 ∷ stored ∷ stored ∷ stored ∷ kept 5 ∷ ok ∷ []) w11
trace_all = append small trace_before (step (done (slot_taken 0 10 3) m5 holder) register5 trace_during)

-- the book when the hold begins, and now
abbrev three : List Pair
three = pair 7 1 ∷ pair 8199 2 ∷ pair 7 3 ∷ []

abbrev five : List Pair
five = pair 7 1 ∷ pair 8199 2 ∷ pair 7 3 ∷ pair 9 4 ∷ pair 7 5 ∷ []

book_begins : book_after small before fresh_world empty_book ≡ record { pairs = three; published = 3 }
book_begins = trace_book small empty_book trace_before

book_now : book_after small (before ++ (begin ∷ during)) fresh_world empty_book ≡ record { pairs = five; published = 5 }
unfolding taken_off
book_now = trace_book small empty_book trace_all

-- the entries are the book's
entries_now : entries m11 ≡ five
entries_now =
    ap (λ (w : World). entries w.memory) (sym (trace_run small trace_all))
    ∙ ((run_stands small (before ++ (begin ∷ during)) fresh_world empty_book (fresh_stands small 1 fresh_world fresh)).pairs_by_book ∙ ap (λ (b : Book). b.pairs) book_now)

-- THE PREMISES, for a call now that leaves slot 0 or is the reader's own
same_slot : {m m' : Memory} → m'.bitmap ≡ m.bitmap → m'.reader_frames ≡ m.reader_frames → m'.reader_owners ≡ m.reader_owners → SameSlot 0 m m'
same_slot b f o = record { same_frame = rw f; same_owner = rw o; same_bit = rw b }

abbrev SlotStays : Event → World → Done → Type 0
SlotStays e w d = (e.who ≡ 0 → ⊥) → SameSlot 0 w.memory d.memory

slot_stays : (e : Event) (w : World) (d : Done) → ComesTo small e w d → SlotStays e w d → LeavesSlot small 0 0 e w
slot_stays e w d q a other = subst (λ (x : Done). SameSlot 0 w.memory x.memory) (sym q) (a other)

-- what is true of each call from w5 on is true of it in the statement's world
from_hold : (Q : Event → World → Type 0) (es : List Event) → Throughout Q small es w5 → Throughout Q small es (next small begin (run small before fresh_world))
from_hold Q es = subst (Throughout Q small es) (sym holds_in)

lasts_through : Throughout (λ e v. EndsDirect small 0 0 3 e v → ⊥) small during w5
unfolding trace_during
lasts_through =
    throughout small (λ e v. EndsDirect small 0 0 3 e v → ⊥) (λ e v d. EndsDirect small 0 0 3 e v → ⊥) (λ e v d q a. a) trace_during
    ((λ x. let z : ◌≡◌ {A = ℕ} 1 0 = x.0 in omega arith), ((λ x. elim x.1 [ ]), ((λ x. elim x.1 [ ]), ((λ x. elim x.1 [ ]), ((λ x. elim x.1 [ ]), ((λ x. elim x.1 [ ]), tt))))))

at_five : (bound : ℕ) → RollsBack (index_op (rollback_op 5)) bound → 3 ≤ bound
at_five bound rolls_back = omega arith

above_through : Throughout (KeepsAbove small 3) small during w5
unfolding trace_during
above_through =
    throughout small (KeepsAbove small 3) (λ e v d. KeepsAbove small 3 e v) (λ e v d q a. a) trace_during
    ((λ b r. elim r [ ]), ((λ b r. elim r [ ]), ((λ b r. elim r [ ]), ((λ b r. elim r [ ]), ((λ b r a. at_five b r), ((λ b r. elim r [ ]), tt))))))

module _ (now : Event) (d : Done) (q : ComesTo small now w11 d) where
  left_through : SlotStays now w11 d → Throughout (LeavesSlot small 0 0) small (during ++ (now ∷ [])) w5
  unfolding trace_during append
  left_through left =
      throughout small (LeavesSlot small 0 0) SlotStays slot_stays (append small trace_during (step {e = now} d q over))
      ((λ x. same_slot refl refl refl), ((λ x. same_slot refl refl refl), ((λ x. same_slot refl refl refl), ((λ x. same_slot refl refl refl), ((λ x. same_slot refl refl refl), ((λ x. same_slot refl refl refl), (left, tt)))))))

  held : SlotStays now w11 d → Held now
  held left =
      record {
        from_fresh = fresh;
        begins = begins_direct {owner = 10} {o = 10} (ap (answer_of small begin) begins_in ∙ ap (λ (x : Done). x.answer) register5);
        at_least_one = omega arith;
        in_index = subst (λ (b : Book). InPairs 3 b.pairs) (sym book_begins) (there (there here));
        is_published = subst (λ (b : Book). 3 ≤ b.published) (sym book_begins) (omega arith);
        lasts = from_hold (λ e v. EndsDirect small 0 0 3 e v → ⊥) during lasts_through;
        no_rollback_below = from_hold (KeepsAbove small 3) during above_through;
        slot_left = from_hold (LeavesSlot small 0 0) (during ++ (now ∷ [])) (left_through left);
      }

  gives : answered now ≡ d.answer
  gives = ap (answer_of small now) now_in ∙ ap (λ (x : Done). x.answer) q

-- THE CALLS NOW
abbrev passed : index_refusal 4096 1 m11.header (length m11.pages) (length m11.frames) (length m11.hash) ≡ 0
passed = grown_accepted 4096 1 m11 g11 refl refl

looks : (page low high : ℕ) (a : Answer) → lookup_answer (greatest five page low high) ≡ a → after (find_frame 4096 1 page low high None) m11 holder ≡ done a m11 holder
looks page low high a e = find_done 4096 1 m11 g11 holder page low high passed ∙ ap (λ (x : Answer). done x m11 holder) (ap (λ (l : List Pair). lookup_answer (greatest l page low high)) entries_now ∙ e)

looked_up : after (find_frame 4096 1 7 1 3 None) m11 holder ≡ done (frame_found 3) m11 holder
unfolding greatest
looked_up = looks 7 1 3 (frame_found 3) refl

newest : after (find_frame 4096 1 7 1 5 None) m11 holder ≡ done (frame_found 5) m11 holder
unfolding greatest
newest = looks 7 1 5 (frame_found 5) refl

searched : (choice : ℕ) (a : Answer) → lookup_answer (frame_chosen five 7 1 3 choice) ≡ a → after (frame_between 4096 1 7 1 3 choice) m11 holder ≡ done a m11 holder
unfolding frame_between
searched choice a e =
    scan_answers 4096 1 (λ es. frame_chosen es 7 1 3 choice) m11.header m11.pages m11.frames (entries_accepted 4096 1 m11.header (length m11.pages) (length m11.frames) (length m11.hash) passed) (frame_chosen (entries m11) 7 1 3 choice) refl m11 holder
    ∙ ap (λ (x : Answer). done x m11 holder) (ap (λ (l : List Pair). lookup_answer (frame_chosen l 7 1 3 choice)) entries_now ∙ e)

first_frame : after (frame_between 4096 1 7 1 3 0) m11 holder ≡ done (frame_found 1) m11 holder
unfolding frames_between chosen
first_frame = searched 0 (frame_found 1) refl

last_frame : after (frame_between 4096 1 7 1 3 1) m11 holder ≡ done (frame_found 3) m11 holder
unfolding frames_between chosen
last_frame = searched 1 (frame_found 3) refl

floored : after (min_active_reader_frame 2 LinuxOfd (0 ∷ 1 ∷ [])) m11 fresh_process ≡ done (frame_found 3) m11 fresh_process
unfolding min_active_reader_frame byte_above some_slot floor_from empty_slots
floored = refl

limited : after (copy_back_limit 2 LinuxOfd (0 ∷ 1 ∷ [])) m11 fresh_process ≡ done (value 3) m11 fresh_process
unfolding copy_back_limit byte_above some_slot floor_from empty_slots
limited = refl

-- the list of the first three pairs, page by page; up to 3 it is that of all five
is_three : IsListOf three 1 3 (pair 7 3 ∷ pair 8199 2 ∷ [])
unfolding greatest
is_three =
    record {
      rises = (omega arith, (omega arith, tt));
      only = λ page f m. elim (Memᴰ.cases_cons m) [
        | inl e ↦ at_page 7 3 refl page f e
        | inr n ↦ elim (Memᴰ.cases_cons n) [ inl e ↦ at_page 8199 2 refl page f e | inr o ↦ absurd (Memᴰ.not-nil o) ]
      ];
      every = λ page f e. by_page page f e (ℕ_discrete 7 page) (ℕ_discrete 8199 page);
    }
  where
    at_page : (x g : ℕ) → greatest three x 1 3 ≡ Some g → (page f : ℕ) → pair page f ≡ pair x g → greatest three page 1 3 ≡ Some f
    at_page x g e page f q = rw (ap (λ (y : Pair). y.page) q, ap (λ (y : Pair). y.frame) q) e

    by_page : (page f : ℕ) → greatest three page 1 3 ≡ Some f → Dec (7 ≡ page) → Dec (8199 ≡ page) → Memᴰ (pair page f) (pair 7 3 ∷ pair 8199 2 ∷ [])
    by_page page f e (yes a) d =
        let t = rw (← a) at e in
        let z : f ≡ 3 = cc in
        rw (← a, z) (Memᴰ.head refl)
    by_page page f e (no a) (yes d) =
        let t = rw (← d) at e in
        let z : f ≡ 2 = cc in
        rw (← d, z) (Memᴰ.tail (Memᴰ.head refl))
    by_page page f e (no a) (no d) =
        let none : greatest three page 1 3 ≡ None = rw (ne_eqb 7 page a, ne_eqb 8199 page d) in
        let z : ◌≡◌ {A = ℕ} 0 1 = cc in
        absurd (omega arith)

is_five : IsListOf five 1 3 (pair 7 3 ∷ pair 8199 2 ∷ [])
unfolding up_to
is_five = view_listed 3 three five refl 1 3 (omega arith) (pair 7 3 ∷ pair 8199 2 ∷ []) is_three

paired : pairs_of m11 (listed_entries 1 3 m11) ≡ pair 7 3 ∷ pair 8199 2 ∷ []
paired = listed_once five 1 3 _ _ (subst (λ (es : List Pair). IsListOf es 1 3 (pairs_of m11 (listed_entries 1 3 m11))) entries_now (list_gives 4096 1 m11 g11 1 3)) is_five

listed_now : after (iter_latest_frames 4096 1 1 3 8 8) m11 holder ≡ done (listed (pair 7 3 ∷ pair 8199 2 ∷ [])) m11 holder
listed_now =
    let c : length (listed_entries 1 3 m11) ≡ 2 = sym (length-map (listed_entries 1 3 m11) (λ n. pair (get_or m11.pages n 0) (get_or m11.frames n 0))) ∙ ap length paired in
    list_done 4096 1 1 3 8 8 m11 holder passed (omega arith) (omega arith) ∙ ap (λ (l : List Pair). done (listed l) m11 holder) paired

-- THE SHARED HOLD: the first registration takes slot 0, the second joins it, and one of the two is released
abbrev sharer : ℕ → Process
sharer holders = with_registry (with_local_readers blank_process (10 ∷ 0 ∷ [])) (record { mark = 3; slot = 0; owner = record { 0 = 10 }; holders = holders } ∷ no_mark ∷ [])

share5 : after (register_reader_for_snapshot 2 LinuxOfd 10 3 (1 ∷ 1 ∷ [])) m4 fresh_process ≡ done (slot_taken 0 10 3) m5 (sharer 1)
unfolding register_reader_for_snapshot first_record byte_above lowest_slot bit_at clear_bit
share5 = refl

share6 : after (register_reader_for_snapshot 2 LinuxOfd 11 3 (1 ∷ 1 ∷ [])) m5 (sharer 1) ≡ done (slot_taken 0 10 3) m5 (sharer 2)
unfolding register_reader_for_snapshot first_record byte_above
share6 = refl

unshare7 : after (unregister_reader_for_snapshot 2 LinuxOfd 3 0 10) m5 (sharer 2) ≡ done ok m5 (sharer 1)
unfolding unregister_reader_for_snapshot first_record
unshare7 = refl

floor8 : after (min_active_reader_frame 2 LinuxOfd (1 ∷ 1 ∷ [])) m5 (sharer 1) ≡ done (frame_found 3) m5 (sharer 1)
unfolding min_active_reader_frame byte_above some_slot floor_from empty_slots
floor8 = refl

abbrev s5 : World
s5 = left_by w4 0 (done (slot_taken 0 10 3) m5 (sharer 1))

abbrev s6 : World
s6 = left_by s5 0 (done (slot_taken 0 10 3) m5 (sharer 2))

abbrev s7 : World
s7 = left_by s6 0 (done ok m5 (sharer 1))

trace_shared : Trace small during_shared s5 (slot_taken 0 10 3 ∷ ok ∷ []) s7
trace_shared = step (done (slot_taken 0 10 3) m5 (sharer 2)) share6 (step (done ok m5 (sharer 1)) unshare7 over)

shares_in : next small begin_shared (run small before fresh_world) ≡ s5
shares_in = ap (next small begin_shared) begins_in ∙ ap (left_by w4 0) share5

-- no call before it registers
no_holder : holders_after small 0 3 before fresh_world 0 ≡ 0
unfolding holders_after
no_holder = refl

shared_left_through : Throughout (LeavesSlot small 0 0) small (during_shared ++ (own_floor ∷ [])) s5
unfolding trace_shared append
shared_left_through =
    throughout small (LeavesSlot small 0 0) SlotStays slot_stays (append small trace_shared (step {e = own_floor} _ floor8 over))
    ((λ x. absurd (x refl)), ((λ x. absurd (x refl)), ((λ x. absurd (x refl)), tt)))

shared_above_through : Throughout (KeepsAbove small 3) small during_shared s5
unfolding trace_shared
shared_above_through = throughout small (KeepsAbove small 3) (λ e v d. KeepsAbove small 3 e v) (λ e v d q a. a) trace_shared ((λ b r. elim r [ ]), ((λ b r. elim r [ ]), tt))

shared_holds : Premises small 1 fresh_world before begin_shared during_shared own_floor shared 0 3
shared_holds =
    record {
      from_fresh = fresh;
      begins = begins_shared {owner = 10} {o = 10} (ap (answer_of small begin_shared) begins_in ∙ ap (λ (x : Done). x.answer) share5) no_holder;
      at_least_one = omega arith;
      in_index = subst (λ (b : Book). InPairs 3 b.pairs) (sym book_begins) (there (there here));
      is_published = subst (λ (b : Book). 3 ≤ b.published) (sym book_begins) (omega arith);
      lasts = subst (λ (v : World). SharedLasts small 0 3 during_shared v 1) (sym shares_in) (trace_lasts small 0 3 1 trace_shared (omega arith, (omega arith, omega arith)));
      no_rollback_below = subst (Throughout (KeepsAbove small 3) small during_shared) (sym shares_in) shared_above_through;
      slot_left = subst (Throughout (LeavesSlot small 0 0) small (during_shared ++ (own_floor ∷ []))) (sym shares_in) shared_left_through;
    }

-- THE HOLD OF THE DATABASE FILE: a registration at mark 0, and two frames copied
abbrev f5 : Memory
f5 = slots_in m4 (2 ∷ []) (0 ∷ unused ∷ []) (10 ∷ 0 ∷ [])

abbrev filer : Process
filer = with_registry (with_local_readers blank_process (10 ∷ 0 ∷ [])) (record { mark = 0; slot = 0; owner = record { 0 = 10 }; holders = 1 } ∷ no_mark ∷ [])

abbrev f6 : Memory
f6 = with_header f5 (header_with nbackfills_cell 2 f5.header)

file5 : after (register_reader_for_snapshot 2 LinuxOfd 10 0 (1 ∷ 1 ∷ [])) m4 fresh_process ≡ done (slot_taken 0 10 0) f5 filer
unfolding register_reader_for_snapshot first_record byte_above lowest_slot bit_at clear_bit
file5 = refl

copied6 : after (publish_backfill 2) f5 fresh_process ≡ done ok f6 fresh_process
unfolding publish_backfill
copied6 = refl

file_limited : after (copy_back_limit 2 LinuxOfd (0 ∷ 1 ∷ [])) f6 fresh_process ≡ done (value 2) f6 fresh_process
unfolding copy_back_limit byte_above some_slot floor_from empty_slots
file_limited = refl

abbrev fw5 : World
fw5 = left_by w4 0 (done (slot_taken 0 10 0) f5 filer)

abbrev fw6 : World
fw6 = left_by fw5 1 (done ok f6 fresh_process)

trace_file : Trace small during_file fw5 (ok ∷ []) fw6
trace_file = step (done ok f6 fresh_process) copied6 over

files_in : next small begin_file (run small before fresh_world) ≡ fw5
files_in = ap (next small begin_file) begins_in ∙ ap (left_by w4 0) file5

no_file_holder : holders_after small 0 0 before fresh_world 0 ≡ 0
unfolding holders_after
no_file_holder = refl

file_left_through : Throughout (LeavesSlot small 0 0) small (during_file ++ (limit ∷ [])) fw5
unfolding trace_file append
file_left_through =
    throughout small (LeavesSlot small 0 0) SlotStays slot_stays (append small trace_file (step {e = limit} _ file_limited over))
    ((λ x. same_slot refl refl refl), ((λ x. same_slot refl refl refl), tt))

file_holds : FilePremises small 1 fresh_world before begin_file during_file limit shared 0
file_holds =
    record {
      from_fresh = fresh;
      begins = begins_shared {owner = 10} {o = 10} (ap (answer_of small begin_file) begins_in ∙ ap (λ (x : Done). x.answer) file5) no_file_holder;
      lasts = subst (λ (v : World). SharedLasts small 0 0 during_file v 1) (sym files_in) (trace_lasts small 0 0 1 trace_file (omega arith, omega arith));
      slot_left = subst (Throughout (LeavesSlot small 0 0) small (during_file ++ (limit ∷ []))) (sym files_in) file_left_through;
    }

-- THE EXAMPLE
pub example : Example
example =
    record {
      calls_answer = trace_answers small trace_all;
      newest_is_5 = gives (reader (look_op (find_op 7 1 5 None))) _ newest;
      lookup_held = held lookup _ looked_up (λ x. absurd (x refl));
      lookup_gives = gives lookup _ looked_up;
      list_held = held listing _ listed_now (λ x. absurd (x refl));
      list_gives = gives listing _ listed_now;
      search_held = held (search 0) _ first_frame (λ x. absurd (x refl));
      search_gives = gives (search 0) _ first_frame;
      other_choice_gives = gives (search 1) _ last_frame;
      floor_held = held floor _ floored (λ x. same_slot refl refl refl);
      floor_gives = gives floor _ floored;
      limit_held = held limit _ limited (λ x. same_slot refl refl refl);
      limit_gives = gives limit _ limited;
      shared_calls_answer = trace_answers small (append small trace_before (step (done (slot_taken 0 10 3) m5 (sharer 1)) share5 trace_shared));
      shared_held = shared_holds;
      shared_floor_gives = ap (answer_of small own_floor) (ap (run small during_shared) shares_in ∙ trace_run small trace_shared) ∙ ap (λ (x : Done). x.answer) floor8;
      file_calls_answer = trace_answers small (append small trace_before (step (done (slot_taken 0 10 0) f5 filer) file5 trace_file));
      file_held = file_holds;
      file_limit_gives = ap (answer_of small limit) (ap (run small during_file) files_in ∙ trace_run small trace_file) ∙ ap (λ (x : Done). x.answer) file_limited;
    }

-- DEMAND 3 says the same of these calls, from the book of three pairs alone
pub lookup_by_demand_3 : answered lookup ≡ frame_found 3
unfolding Demand3 greatest
lookup_by_demand_3 =
    (demand_3 small 1 fresh_world before begin during lookup direct 0 3 example.lookup_held).lookup_owed 7 1 3 refl (omega arith) (subst accepted (sym example.lookup_gives) (λ r. elim r [ ]))
    ∙ ap (λ (b : Book). lookup_answer (greatest b.pairs 7 1 3)) book_begins

pub list_by_demand_3 : answered listing ≡ listed (pair 7 3 ∷ pair 8199 2 ∷ [])
unfolding Demand3
list_by_demand_3 =
    let owed = (demand_3 small 1 fresh_world before begin during listing direct 0 3 example.list_held).list_owed 1 3 8 8 refl (omega arith) (subst accepted (sym example.list_gives) (λ r. elim r [ ])) in
    owed.1 ∙ ap listed (listed_once three 1 3 owed.0 _ (subst (λ (b : Book). IsListOf b.pairs 1 3 owed.0) book_begins owed.2) is_three)

pub search_by_demand_3 : answered (search 0) ≡ frame_found 1
unfolding Demand3 frames_between chosen
search_by_demand_3 =
    (demand_3 small 1 fresh_world before begin during (search 0) direct 0 3 example.search_held).between_owed 7 1 3 0 refl (omega arith) (subst accepted (sym example.search_gives) (λ r. elim r [ ]))
    ∙ ap (λ (b : Book). lookup_answer (frame_chosen b.pairs 7 1 3 0)) book_begins

pub floor_by_demand_3 : (f : ℕ) × (answered floor ≡ frame_found f) × (f ≤ 3)
unfolding Demand3
floor_by_demand_3 = (demand_3 small 1 fresh_world before begin during floor direct 0 3 example.floor_held).floor_owed _ refl (subst accepted (sym example.floor_gives) (λ r. elim r [ ]))

pub limit_by_demand_3 : (l : ℕ) × (answered limit ≡ value l) × (l ≤ 3)
unfolding Demand3
limit_by_demand_3 = (demand_3 small 1 fresh_world before begin during limit direct 0 3 example.limit_held).limit_owed _ refl (subst accepted (sym example.limit_gives) (λ r. elim r [ ]))

pub shared_floor_by_demand_3 : (f : ℕ) × (answer_of small own_floor (at_now small 1 fresh_world before begin_shared during_shared own_floor shared 0 3) ≡ frame_found f) × (f ≤ 3)
unfolding Demand3
shared_floor_by_demand_3 = (demand_3 small 1 fresh_world before begin_shared during_shared own_floor shared 0 3 example.shared_held).floor_owed _ refl (subst accepted (sym example.shared_floor_gives) (λ r. elim r [ ]))

-- THE LIKE AT MARK 0 says the same of the limit
pub file_limit_by_theorem : (l : ℕ) × (answer_of small limit (present small 1 fresh_world before begin_file during_file limit shared 0) ≡ value l) × (l ≤ (present small 1 fresh_world before begin_file during_file limit shared 0).memory.header.nbackfills)
unfolding DbFileHoldsBack
file_limit_by_theorem = db_file_holds_back small 1 fresh_world before begin_file during_file limit shared 0 example.file_held _ refl (subst accepted (sym example.file_limit_gives) (λ r. elim r [ ]))
