-- record_frame by its cases. Assumes nothing.
use mathlib.Core.Path.{◌≡◌, refl, sym, ◌∙◌, ap}
use mathlib.Core.Bool.{Bool, true, false, not, ◌&&◌, cond}
use mathlib.Core.List.{List, [], ◌∷◌}
use Prim.Native.Nat.{ℕ, ◌+◌, ◌*◌, ◌≤◌}
use lib.ListN.{length, set}
use borrow.Author.Tests.{eq-eqb, ne_eqb}
use Rattle.wal_types.specs.declared.Header.{Header}
use Rattle.wal_types.specs.Memory.{Memory, Process, to_header, frame_index_len_cell, frame_index_overflowed_cell, frame_index_blocks_cell}
use Rattle.wal_types.specs.Store.{apply, one, when, ◌then◌}
use Rattle.wal_types.specs.Refusal.{Test, lowest, ◌if◌}
use Rattle.wal_types.specs.declared.refusal.Refusal.TheVariants.{FrameOrder, HashFull}
use Rattle.wal_types.specs.Call.{refused, stored, dropped, done, after, unless}
use Rattle.wal_types.proofs.Stores.{then_leaves}
use Rattle.wal_types.proofs.Refusals.{call_accepted}
use Rattle.std.specs.Prelude.{Some, None}
use Rattle.index_hash.specs.Block.{cleared, empty_cell, inserted}
use Rattle.index_end.specs.declared.cells.IndexCells.{IndexCells}
use Rattle.index_find.specs.Index.{block_of, place_of, block_cells_of, with_block, index_refusal, index_in}
use Rattle.index_end.specs.Cells.{cells_of, cells_with, with_cells}
use Rattle.index_end.specs.Place.{resets, started, blocks_full, drops, placed, out_of_order}
use Rattle.index_record.specs.Record.{no_cell, reset_index, grow_index, enter, enter_stores, records, record_frame}
use Rattle.index_find.proofs.Refused.{index_refused, index_passed}
use Rattle.index_record.proofs.Entered.{enter_first, enter_next}

-- what the place tells of the tests
no_place : (d : Bool) (x : IndexCells) → cond d None (Some x) ≡ None → d ≡ true
no_place true x e = refl
no_place false x e = let z : ◌≡◌ {A = Bool} false true = cc in z

has_place : (d : Bool) (x g : IndexCells) → cond d None (Some x) ≡ Some g → d ≡ false
has_place true x g e = let z : ◌≡◌ {A = Bool} true false = cc in z
has_place false x g e = refl

place_is : (d : Bool) (x g : IndexCells) → cond d None (Some x) ≡ Some g → x ≡ g
place_is true x g e = let z : x ≡ g = cc in z
place_is false x g e = let z : x ≡ g = cc in z

-- a growth leaves the length
grown_len : (f : Bool) (v : ℕ) (s : IndexCells) → (cond f (cells_with frame_index_blocks_cell v s) s).frame_index_len ≡ s.frame_index_len
grown_len true v s = refl
grown_len false v s = refl

module _ (capacity b page frame : ℕ) (grow : Bool) (z : Memory) (h : Header) (ps fs hs : List ℕ) (p : Process) where
  abbrev m : Memory
  m = index_in z h ps fs hs

  abbrev s : IndexCells
  s = started frame h

  abbrev own : Memory → Process → List Test
  own m p =
      (FrameOrder if (not (drops capacity b grow (started frame m.header)) && out_of_order frame (started frame m.header).frame_index_len m.frames))
      ∷ (HashFull if (not (drops capacity b grow (started frame m.header)) && no_cell (started frame m.header).frame_index_len page m.hash))
      ∷ []

  abbrev number_of : ℕ
  number_of = index_refusal capacity b h (length ps) (length fs) (length hs)

  -- refused by 1 or 2
  pub record_refused : (n : ℕ) → number_of ≡ n → (n ≡ 0 → ⊥) → after (record_frame capacity b page frame grow) m p ≡ done (refused n) m p
  unfolding record_frame
  record_refused n e i = index_refused capacity b own (records capacity b page frame grow) m p n e i

  module _ (passed : number_of ≡ 0) where
    to_own : after (record_frame capacity b page frame grow) m p ≡ after (unless own (records capacity b page frame grow)) m p
    unfolding record_frame
    to_own = index_passed capacity b own (records capacity b page frame grow) m p passed

    reset_applied : apply (when (resets frame h) reset_index m) m ≡ index_in z (with_cells s h) ps fs hs
    unfolding started
    reset_applied = go (resets frame h)
      where
        go : (r : Bool) → apply (when r reset_index m) m ≡ index_in z (with_cells (cond r (cells_with frame_index_overflowed_cell 0 (cells_with frame_index_len_cell 0 (cells_of h))) (cells_of h)) h) ps fs hs
        go true = refl
        go false = refl

    -- no place: dropped, with the flag set
    pub record_dropped : placed capacity b grow s ≡ None → after (record_frame capacity b page frame grow) m p ≡ done dropped (index_in z (with_cells (cells_with frame_index_overflowed_cell 1 s) h) ps fs hs) p
    unfolding placed
    record_dropped e =
        let d = no_place (drops capacity b grow s) _ e in
        to_own ∙ rw d (ap (λ (x : Memory). done dropped x p) (then_leaves (when (resets frame h) reset_index) (one (to_header frame_index_overflowed_cell 1)) m reset_applied refl))

    module _ (g : IndexCells) (at_end : placed capacity b grow s ≡ Some g) where
      abbrev n : ℕ
      n = g.frame_index_len

      not_dropped : drops capacity b grow s ≡ false
      unfolding placed
      not_dropped = has_place (drops capacity b grow s) _ g at_end

      grown : cond (blocks_full s) (cells_with frame_index_blocks_cell (s.frame_index_blocks + 1) s) s ≡ g
      unfolding placed
      grown = place_is (drops capacity b grow s) _ g at_end

      len_same : s.frame_index_len ≡ n
      len_same = sym (grown_len (blocks_full s) (s.frame_index_blocks + 1) s) ∙ ap (λ (x : IndexCells). x.frame_index_len) grown

      -- not above the last frame: refused 3
      pub record_out_of_order : out_of_order frame n fs ≡ true → after (record_frame capacity b page frame grow) m p ≡ done (refused 3) m p
      record_out_of_order o = to_own ∙ rw (not_dropped, len_same, o)

      -- no empty cell: refused 4
      pub record_full : out_of_order frame n fs ≡ false → (place_of n ≡ 0 → ⊥) → empty_cell (block_cells_of (block_of n) hs) page ≡ None → after (record_frame capacity b page frame grow) m p ≡ done (refused 4) m p
      record_full o first e = to_own ∙ rw (not_dropped, len_same, o, ne_eqb _ _ first, e)

      grow_applied : apply (when (blocks_full s) grow_index (index_in z (with_cells s h) ps fs hs)) (index_in z (with_cells s h) ps fs hs) ≡ index_in z (with_cells g h) ps fs hs
      grow_applied = go (blocks_full s) ∙ ap (λ (x : IndexCells). index_in z (with_cells x h) ps fs hs) grown
        where
          go : (f : Bool) → apply (when f grow_index (index_in z (with_cells s h) ps fs hs)) (index_in z (with_cells s h) ps fs hs) ≡ index_in z (with_cells (cond f (cells_with frame_index_blocks_cell (s.frame_index_blocks + 1) s) s) h) ps fs hs
          go true = refl
          go false = refl

      -- the stores of a stored record, where those of the entry are known
      enter_applied : (hs2 : List ℕ) → apply (enter n page frame (index_in z (with_cells g h) ps fs hs)) (index_in z (with_cells g h) ps fs hs) ≡ index_in z (with_cells (cells_with frame_index_len_cell (n + 1) g) h) (set ps n page) (set fs n frame) hs2
          → apply (enter_stores page frame m) m ≡ index_in z (with_cells (cells_with frame_index_len_cell (n + 1) g) h) (set ps n page) (set fs n frame) hs2
      enter_applied hs2 e =
          ap (λ (x : ℕ). apply ((when (resets frame h) reset_index then when (blocks_full s) grow_index then enter x page frame) m) m) len_same
          ∙ then_leaves (when (resets frame h) reset_index then when (blocks_full s) grow_index) (enter n page frame) m
          (then_leaves (when (resets frame h) reset_index) (when (blocks_full s) grow_index) m reset_applied grow_applied) e

      -- stored: no test applies
      stored_by : (hs2 : List ℕ) → lowest (own m p) ≡ 0
          → apply (enter n page frame (index_in z (with_cells g h) ps fs hs)) (index_in z (with_cells g h) ps fs hs) ≡ index_in z (with_cells (cells_with frame_index_len_cell (n + 1) g) h) (set ps n page) (set fs n frame) hs2
          → after (record_frame capacity b page frame grow) m p ≡ done stored (index_in z (with_cells (cells_with frame_index_len_cell (n + 1) g) h) (set ps n page) (set fs n frame) hs2) p
      stored_by hs2 t e =
          to_own
          ∙ (call_accepted own (records capacity b page frame grow) m p t
          ∙ rw not_dropped (ap (λ (x : Memory). done stored x p) (enter_applied hs2 e)))

      -- stored, as the first entry of its block
      pub record_first : out_of_order frame n fs ≡ false → place_of n ≡ 0 → 8192 * block_of n + 8192 ≤ length hs
          → after (record_frame capacity b page frame grow) m p ≡ done stored (index_in z (with_cells (cells_with frame_index_len_cell (n + 1) g) h) (set ps n page) (set fs n frame) (with_block (block_of n) (inserted cleared 0 page) hs)) p
      record_first o first fits =
          stored_by _ (rw (not_dropped, len_same, o, eq-eqb _ _ first)) (enter_first z (with_cells g h) ps fs hs n page frame fits first)

      -- stored, in the cell found for it
      pub record_next : (c : ℕ) → out_of_order frame n fs ≡ false → (place_of n ≡ 0 → ⊥) → 8192 * block_of n + 8192 ≤ length hs → empty_cell (block_cells_of (block_of n) hs) page ≡ Some c
          → after (record_frame capacity b page frame grow) m p ≡ done stored (index_in z (with_cells (cells_with frame_index_len_cell (n + 1) g) h) (set ps n page) (set fs n frame) (with_block (block_of n) (set (block_cells_of (block_of n) hs) c (place_of n + 1)) hs)) p
      record_next c o first fits e =
          stored_by _ (rw (not_dropped, len_same, o, ne_eqb _ _ first, e)) (enter_next z (with_cells g h) ps fs hs n page frame fits c first e)
