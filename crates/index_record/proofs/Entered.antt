-- An entry's stores in closed form. Assumes nothing.
use mathlib.Core.Path.{◌≡◌, refl, sym, ◌∙◌, ap}
use mathlib.Core.List.{List, [], ◌∷◌, ◌++◌, append_assoc}
use Prim.Native.Nat.{ℕ, zero, suc, ◌+◌, ◌*◌, ◌≤◌}
use native.Mathlib.Omega.{arith}
use lib.Dec.{eqb}
use lib.ListN.{length, take, drop, set, replicate, get_or, length-append, length-drop, length-replicate, take-append-drop}
use lib.Seq.{set_at, length-take-le, append_snoc}
use borrow.Author.Tests.{eq-eqb, ne_eqb}
use Rattle.wal_types.specs.declared.Header.{Header}
use Rattle.wal_types.specs.Memory.{Memory, to_header, to_page, to_frame_cell, frame_index_len_cell, header_with}
use Rattle.wal_types.specs.Store.{apply, one, when, ◌then◌}
use Rattle.wal_types.proofs.Stores.{then_leaves, when_leaves, when_not}
use Rattle.std.specs.Prelude.{Option, Some}
use Rattle.index_hash.specs.Home.{home}
use Rattle.index_hash.specs.Block.{cleared, empty_from, empty_cell, inserted}
use Rattle.index_hash.proofs.Built.{cleared_empty}
use Rattle.index_hash.proofs.Empty.{inserted_at, found_below}
use Rattle.index_find.specs.Index.{block_of, place_of, block_cells_of, with_block, zero_stores, clear_block, name_stores, insert_entry, index_in}
use Rattle.index_record.specs.Record.{enter}
use Rattle.index_find.proofs.Blocks.{block_of_with, length_with, with_with, set_in_block}

-- an empty cell ends the search for one
empty_here : (left : ℕ) (h : List ℕ) (cell : ℕ) → get_or h cell 0 ≡ 0 → empty_from (suc left) h cell ≡ Some cell
unfolding empty_from
empty_here left h cell e = rw (eq-eqb _ _ e)

-- In a cleared table an entry goes to its page's home.
pub cleared_cell : (page : ℕ) → empty_cell cleared page ≡ Some (home page)
unfolding empty_cell
cleared_cell page = empty_here 8191 cleared (home page) (cleared_empty (home page))

pub length_cleared : length cleared ≡ 8192
unfolding cleared
length_cleared = length-replicate {A = ℕ} 8192 0

module _ (z : Memory) (h : Header) (ps fs : List ℕ) where
  -- zeros are stored to so many cells from one on
  zeros_applied : (left : ℕ) (before rest : List ℕ) (cell : ℕ) → length before ≡ cell → left ≤ length rest → apply (zero_stores left cell) (index_in z h ps fs (before ++ rest)) ≡ index_in z h ps fs (before ++ (replicate left 0 ++ drop left rest))
  unfolding zero_stores
  zeros_applied zero before rest cell e l = refl
  zeros_applied (suc left) before [] cell e l = absurd (omega arith)
  zeros_applied (suc left) before (c ∷ rest) cell e l =
      ap (λ (x : List ℕ). apply (zero_stores left (cell + 1)) (index_in z h ps fs x)) (set_at before c rest 0 cell e ∙ sym (append_snoc before 0 rest))
      ∙ (zeros_applied left (before ++ (0 ∷ [])) rest (cell + 1) (simp (length-append, e)) (omega arith)
      ∙ ap (index_in z h ps fs) (append_assoc before (0 ∷ []) (replicate left 0 ++ drop left rest)))

  module _ (hs : List ℕ) (k : ℕ) (fits : 8192 * k + 8192 ≤ length hs) where
    -- clearing a block
    pub clear_applied : apply (clear_block k (index_in z h ps fs hs)) (index_in z h ps fs hs) ≡ index_in z h ps fs (with_block k cleared hs)
    unfolding with_block cleared
    clear_applied =
        ap (λ (x : List ℕ). apply (zero_stores 8192 (8192 * k)) (index_in z h ps fs x)) (sym (take-append-drop (8192 * k) hs))
        ∙ zeros_applied 8192 (take (8192 * k) hs) (drop (8192 * k) hs) (8192 * k) (length-take-le (8192 * k) hs (omega arith)) (simp length-drop (omega arith))

  -- naming an entry in the cell found for it
  pub insert_applied : (hs : List ℕ) (n page c : ℕ) → 8192 * block_of n + 8192 ≤ length hs → empty_cell (block_cells_of (block_of n) hs) page ≡ Some c
      → apply (insert_entry n page (index_in z h ps fs hs)) (index_in z h ps fs hs) ≡ index_in z h ps fs (with_block (block_of n) (set (block_cells_of (block_of n) hs) c (place_of n + 1)) hs)
  insert_applied hs n page c fits e =
      ap (λ (x : Option ℕ). apply (name_stores (block_of n) (place_of n) x) (index_in z h ps fs hs)) e
      ∙ ap (index_in z h ps fs) (set_in_block (block_of n) hs fits c (place_of n + 1) (found_below (block_cells_of (block_of n) hs) page c e))

module _ (z : Memory) (h : Header) (ps fs hs : List ℕ) (n page frame : ℕ) (fits : 8192 * block_of n + 8192 ≤ length hs) where
  abbrev k : ℕ
  k = block_of n

  abbrev longer_header : Header
  longer_header = header_with frame_index_len_cell (n + 1) h

  -- the stores after the hash is as the entry finds it
  enter_rest : (hs1 hs2 : List ℕ) → apply (when (eqb (place_of n) 0) (clear_block k) (index_in z h ps fs hs)) (index_in z h ps fs hs) ≡ index_in z h ps fs hs1
      → apply (insert_entry n page (index_in z h (set ps n page) (set fs n frame) hs1)) (index_in z h (set ps n page) (set fs n frame) hs1) ≡ index_in z h (set ps n page) (set fs n frame) hs2
      → apply (enter n page frame (index_in z h ps fs hs)) (index_in z h ps fs hs) ≡ index_in z longer_header (set ps n page) (set fs n frame) hs2
  enter_rest hs1 hs2 e f =
      then_leaves (when (eqb (place_of n) 0) (clear_block k) then one (to_page n page) then one (to_frame_cell n frame) then insert_entry n page) (one (to_header frame_index_len_cell (n + 1))) (index_in z h ps fs hs)
      (then_leaves (when (eqb (place_of n) 0) (clear_block k) then one (to_page n page) then one (to_frame_cell n frame)) (insert_entry n page) (index_in z h ps fs hs)
      (then_leaves (when (eqb (place_of n) 0) (clear_block k) then one (to_page n page)) (one (to_frame_cell n frame)) (index_in z h ps fs hs)
      (then_leaves (when (eqb (place_of n) 0) (clear_block k)) (one (to_page n page)) (index_in z h ps fs hs) e refl) refl) f) refl

  -- the first entry of a block
  pub enter_first : place_of n ≡ 0 → apply (enter n page frame (index_in z h ps fs hs)) (index_in z h ps fs hs) ≡ index_in z longer_header (set ps n page) (set fs n frame) (with_block k (inserted cleared 0 page) hs)
  enter_first first =
      let at_home : empty_cell (block_cells_of k (with_block k cleared hs)) page ≡ Some (home page) = ap (λ (x : List ℕ). empty_cell x page) (block_of_with k hs fits cleared length_cleared) ∙ cleared_cell page in
      let named : set (block_cells_of k (with_block k cleared hs)) (home page) (place_of n + 1) ≡ inserted cleared 0 page = rw (block_of_with k hs fits cleared length_cleared, first) (sym (inserted_at cleared 0 page (home page) (cleared_cell page))) in
      enter_rest (with_block k cleared hs) (with_block k (inserted cleared 0 page) hs)
      (when_leaves (eqb (place_of n) 0) (clear_block k) (index_in z h ps fs hs) (eq-eqb _ _ first) (clear_applied z h ps fs hs k fits))
      (insert_applied z h (set ps n page) (set fs n frame) (with_block k cleared hs) n page (home page) (rw (length_with k hs fits cleared length_cleared) fits) at_home
      ∙ ap (index_in z h (set ps n page) (set fs n frame)) (ap (λ (x : List ℕ). with_block k x (with_block k cleared hs)) named ∙ with_with k hs fits cleared (inserted cleared 0 page) length_cleared))

  -- an entry that is not the first of its block
  pub enter_next : (c : ℕ) → (place_of n ≡ 0 → ⊥) → empty_cell (block_cells_of k hs) page ≡ Some c → apply (enter n page frame (index_in z h ps fs hs)) (index_in z h ps fs hs) ≡ index_in z longer_header (set ps n page) (set fs n frame) (with_block k (set (block_cells_of k hs) c (place_of n + 1)) hs)
  enter_next c first e =
      enter_rest hs (with_block k (set (block_cells_of k hs) c (place_of n + 1)) hs)
      (when_not (eqb (place_of n) 0) (clear_block k) (index_in z h ps fs hs) (ne_eqb _ _ first))
      (insert_applied z h (set ps n page) (set fs n frame) hs n page c fits e)

-- a block's hash after it is cleared and an entry is named in one of its cells
pub first_hash : (k cell v : ℕ) (hs hs1 : List ℕ) → 8192 * k + 8192 ≤ length hs → hs1 ≡ with_block k cleared hs → with_block k (set (block_cells_of k hs1) cell v) hs1 ≡ with_block k (set cleared cell v) hs
first_hash k cell v hs hs1 fits e = rw (e, block_of_with k hs fits cleared length_cleared) (with_with k hs fits cleared (set cleared cell v) length_cleared)

-- the first entry of a block goes to its page's home
pub first_named : (page n : ℕ) → place_of n ≡ 0 → inserted cleared 0 page ≡ set cleared (home page) (place_of n + 1)
first_named page n first = rw (inserted_at cleared 0 page (home page) (cleared_cell page), first)
