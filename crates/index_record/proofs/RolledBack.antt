-- rollback_frames by its cases. Assumes nothing.
use mathlib.Core.Path.{◌≡◌, refl, sym, ◌∙◌, ap}
use mathlib.Core.Bool.{not}
use mathlib.Core.List.{List, []}
use Prim.Native.Nat.{ℕ, zero, suc, ◌+◌, ◌-◌, ◌*◌, ◌<◌, ◌≤◌}
use native.Mathlib.Omega.{arith}
use lib.Dec.{eqb, ltb}
use lib.ListN.{length, get_or, set}
use borrow.Author.Tests.{eq-eqb, ne_eqb, lt-ltb, le-ltb}
use Rattle.wal_types.specs.declared.Header.{Header}
use Rattle.wal_types.specs.Memory.{Memory, Process, to_header, frame_index_len_cell, header_with}
use Rattle.wal_types.specs.Store.{apply, one, ◌then◌}
use Rattle.wal_types.specs.Refusal.{Test}
use Rattle.wal_types.specs.Call.{Call, refused, kept, does, done, after}
use Rattle.wal_types.proofs.Stores.{then_leaves, when_leaves, when_not}
use Rattle.std.specs.Prelude.{Some}
use Rattle.index_hash.specs.Block.{empty_cell, built}
use Rattle.index_hash.proofs.Empty.{inserted_at}
use Rattle.index_hash.proofs.Built.{built_none, built_next, built_length}
use Rattle.index_hash.proofs.Used.{has_room}
use Rattle.index_find.specs.Index.{block_of, place_of, block_cells_of, block_pages_of, with_block, clear_block, insert_entry, insert_entries, index_refusal, index_in}
use Rattle.index_end.specs.Kept.{kept_of}
use Rattle.index_record.specs.Rollback.{kept_len, rebuild_last, rollback_stores, rollback_frames}
use Rattle.index_find.proofs.Blocks.{block_page, block_of_with, length_with, with_with}
use Rattle.index_find.proofs.Refused.{index_refused, index_passed}
use Rattle.index_record.proofs.Entered.{clear_applied, insert_applied}

module _ (z : Memory) (h : Header) (ps fs hs : List ℕ) (k : ℕ) (fits : 8192 * k + 8192 ≤ length hs) where
  abbrev bp : List ℕ
  bp = block_pages_of k ps

  abbrev at : ℕ → Memory
  at i = index_in z h ps fs (with_block k (built bp i) hs)

  -- one entry of the block is inserted, in the cell found for it
  insert_at : (i n c : ℕ) → i < 4096 → n ≡ 4096 * k + i → empty_cell (built bp i) (get_or bp i 0) ≡ Some c → apply (insert_entry n (get_or ps n 0) (at i)) (at i) ≡ at (i + 1)
  insert_at i n c l e found =
      let kn : block_of n ≡ k = omega arith in
      let pn : place_of n ≡ i = omega arith in
      let page : get_or ps n 0 ≡ get_or bp i 0 = ap (λ (x : ℕ). get_or ps x 0) e ∙ sym (block_page k ps i l) in
      let long : length (with_block k (built bp i) hs) ≡ length hs = length_with k hs fits (built bp i) (built_length bp i) in
      let here : block_cells_of k (with_block k (built bp i) hs) ≡ built bp i = block_of_with k hs fits (built bp i) (built_length bp i) in
      insert_applied z h ps fs (with_block k (built bp i) hs) n (get_or ps n 0) c (rw (kn, long) fits) (rw (kn, here, page) found)
      ∙ ap (index_in z h ps fs)
      (rw (kn, pn, here, built_next bp i, inserted_at (built bp i) i (get_or bp i 0) c found)
      (with_with k hs fits (built bp i) (set (built bp i) c (i + 1)) (built_length bp i)))

  insert_one : (i n : ℕ) → i < 4096 → n ≡ 4096 * k + i → apply (insert_entry n (get_or ps n 0) (at i)) (at i) ≡ at (i + 1)
  insert_one i n l e =
      let room = has_room bp i (get_or bp i 0) (omega arith) in
      insert_at i n room.0 l e room.1

  -- so many entries from one on
  insert_some : (left i n : ℕ) → i + left ≤ 4096 → n ≡ 4096 * k + i → apply (insert_entries left n (at i)) (at i) ≡ at (i + left)
  unfolding insert_entries
  insert_some zero i n l e = let s : i + 0 ≡ i = omega arith in rw s
  insert_some (suc left) i n l e =
      let s : i + 1 + left ≡ i + suc left = omega arith in
      then_leaves (insert_entry n (get_or ps n 0)) (insert_entries left (n + 1)) (at i) (insert_one i n (omega arith) e)
      (insert_some left (i + 1) (n + 1) (omega arith) (omega arith) ∙ ap at s)

  -- the block is cleared and rebuilt for its first r entries
  pub rebuild_applied : (r n : ℕ) → r ≤ 4096 → n ≡ 4096 * k → apply ((clear_block k then insert_entries r n) (index_in z h ps fs hs)) (index_in z h ps fs hs) ≡ at r
  rebuild_applied r n l e =
      let s : 0 + r ≡ r = omega arith in
      then_leaves (clear_block k) (insert_entries r n) (index_in z h ps fs hs)
      (clear_applied z h ps fs hs k fits ∙ ap (λ (x : List ℕ). index_in z h ps fs (with_block k x hs)) (sym (built_none bp)))
      (insert_some r 0 n (omega arith) (omega arith) ∙ ap at s)

module _ (capacity b bound : ℕ) (z : Memory) (h : Header) (ps fs hs : List ℕ) (p : Process) where
  abbrev m : Memory
  m = index_in z h ps fs hs

  abbrev own : Memory → Process → List Test
  own m p = []

  abbrev rolls : Call
  rolls m = does (kept (kept_len bound m)) (rollback_stores (kept_len bound m)) m

  abbrev number_of : ℕ
  number_of = index_refusal capacity b h (length ps) (length fs) (length hs)

  -- refused by 1 or 2
  pub rollback_refused : (n : ℕ) → number_of ≡ n → (n ≡ 0 → ⊥) → after (rollback_frames capacity b bound) m p ≡ done (refused n) m p
  unfolding rollback_frames
  rollback_refused n e i = index_refused capacity b own rolls m p n e i

  module _ (passed : number_of ≡ 0) (n : ℕ) (kept_is : n ≡ kept_of h.frame_index_len fs bound) where
    to_rolls : after (rollback_frames capacity b bound) m p ≡ done (kept n) (apply (rollback_stores n m) m) p
    unfolding rollback_frames
    to_rolls = index_passed capacity b own rolls m p passed ∙ ap (λ (x : ℕ). done (kept x) (apply (rollback_stores x m) m) p) (sym kept_is)

    -- nothing is dropped: nothing is written
    pub rollback_none : n ≡ h.frame_index_len → after (rollback_frames capacity b bound) m p ≡ done (kept n) m p
    rollback_none e = to_rolls ∙ ap (λ (x : Memory). done (kept n) x p) (when_not (ltb n h.frame_index_len) (one (to_header frame_index_len_cell n) then rebuild_last n) m (le-ltb n h.frame_index_len (omega arith)))

    abbrev shorter : Header
    shorter = header_with frame_index_len_cell n h

    drops_by : (hs2 : List ℕ) → n < h.frame_index_len → apply (rebuild_last n (index_in z shorter ps fs hs)) (index_in z shorter ps fs hs) ≡ index_in z shorter ps fs hs2 → after (rollback_frames capacity b bound) m p ≡ done (kept n) (index_in z shorter ps fs hs2) p
    drops_by hs2 l e =
        to_rolls ∙ ap (λ (x : Memory). done (kept n) x p)
        (when_leaves (ltb n h.frame_index_len) (one (to_header frame_index_len_cell n) then rebuild_last n) m (lt-ltb _ _ l)
        (then_leaves (one (to_header frame_index_len_cell n)) (rebuild_last n) m refl e))

    -- the kept length is a multiple of 4,096: no hash is touched
    pub rollback_even : n < h.frame_index_len → place_of n ≡ 0 → after (rollback_frames capacity b bound) m p ≡ done (kept n) (index_in z shorter ps fs hs) p
    rollback_even l e =
        drops_by hs l
        (when_not (not (eqb (place_of n) 0)) (clear_block (block_of n) then insert_entries (place_of n) (n - place_of n)) (index_in z shorter ps fs hs) (rw (eq-eqb _ _ e)))

    -- otherwise the last kept block's is rebuilt
    pub rollback_odd : n < h.frame_index_len → (place_of n ≡ 0 → ⊥) → 8192 * block_of n + 8192 ≤ length hs
        → after (rollback_frames capacity b bound) m p ≡ done (kept n) (index_in z shorter ps fs (with_block (block_of n) (built (block_pages_of (block_of n) ps) (place_of n)) hs)) p
    rollback_odd l e fits =
        drops_by _ l
        (when_leaves (not (eqb (place_of n) 0)) (clear_block (block_of n) then insert_entries (place_of n) (n - place_of n)) (index_in z shorter ps fs hs) (rw (ne_eqb _ _ e))
        (rebuild_applied z shorter ps fs hs (block_of n) fits (place_of n) (n - place_of n) (omega arith) (omega arith)))
