-- Where a record's entry goes on a grown index, and what it finds there. Assumes nothing.
use mathlib.Core.Path.{◌≡◌, refl, sym, ◌∙◌, ap, ap₂}
use mathlib.Core.Bool.{Bool, true, false, not, ◌&&◌, ◌||◌, cond}
use mathlib.Core.List.{List, []}
use mathlib.Core.Logic.{◌⊎◌, inl, inr}
use Prim.Native.Nat.{ℕ, ◌+◌, ◌-◌, ◌*◌, ◌/◌, ◌%◌, ◌<◌, ◌≤◌}
use native.Mathlib.Omega.{arith}
use lib.Dec.{leb, ltb}
use lib.ListN.{length, get_or, set}
use lib.Seq.{get_or-set_same}
use borrow.Author.Tests.{leb-false, ltb-false}
use Rattle.wal_types.specs.declared.Header.{Header}
use Rattle.wal_types.specs.Settings.{entries_for}
use Rattle.wal_types.specs.Memory.{frame_index_len_cell, frame_index_overflowed_cell, frame_index_blocks_cell}
use Rattle.index_hash.specs.Block.{cleared, inserted, built}
use Rattle.index_hash.proofs.Built.{built_none, built_next}
use Rattle.index_end.specs.declared.cells.IndexCells.{IndexCells}
use Rattle.std.specs.Prelude.{Some, None}
use Rattle.index_find.specs.Index.{block_of, place_of, block_pages_of}
use Rattle.index_end.specs.Cells.{cells_of, cells_with}
use Rattle.index_end.specs.Place.{resets, started, blocks_full, placed, out_of_order}
use Rattle.index_find.proofs.Blocks.{block_page}
use Rattle.index_grown.specs.Entries.{entries_of}
use Rattle.index_grown.proofs.Entries.{entries_none}
use Rattle.index_grown.proofs.Blocks.{built_set_past}

-- a reset leaves no length, and else nothing changes
pub started_cases : (frame : ℕ) (h : Header) → ((started frame h).frame_index_len ≡ 0) ⊎ ((started frame h).frame_index_len ≡ h.frame_index_len)
unfolding started
started_cases frame h = go (resets frame h)
  where
    go : (r : Bool) → ((cond r (cells_with frame_index_overflowed_cell 0 (cells_with frame_index_len_cell 0 (cells_of h))) (cells_of h)).frame_index_len ≡ 0) ⊎ ((cond r (cells_with frame_index_overflowed_cell 0 (cells_with frame_index_len_cell 0 (cells_of h))) (cells_of h)).frame_index_len ≡ h.frame_index_len)
    go true = inl refl
    go false = inr refl

-- the entries that a record finds
pub started_entries : (frame : ℕ) (h : Header) (ps fs : List ℕ) → entries_of (started frame h).frame_index_len ps fs ≡ cond (resets frame h) [] (entries_of h.frame_index_len ps fs)
unfolding started
started_entries frame h ps fs = go (resets frame h)
  where
    go : (r : Bool) → entries_of (cond r (cells_with frame_index_overflowed_cell 0 (cells_with frame_index_len_cell 0 (cells_of h))) (cells_of h)).frame_index_len ps fs ≡ cond r [] (entries_of h.frame_index_len ps fs)
    go true = entries_none ps fs
    go false = refl

-- the cells that an entry's place leaves: the same length, below capacity and below the blocks in use
pub record AtEndOf (capacity b : ℕ) (s g : IndexCells) : Type 0 where
  pub same_len : g.frame_index_len ≡ s.frame_index_len
  pub below_capacity : g.frame_index_len < capacity
  pub below_blocks : g.frame_index_len < 4096 * g.frame_index_blocks
  pub in_limit : g.frame_index_blocks ≤ b

at_end_by : (capacity b : ℕ) (grow : Bool) (s g : IndexCells) (full no_more beyond : Bool) → leb capacity s.frame_index_len ≡ beyond → blocks_full s ≡ full → leb b s.frame_index_blocks ≡ no_more
    → cond (beyond || (full && (no_more || not grow))) None (Some (cond full (cells_with frame_index_blocks_cell (s.frame_index_blocks + 1) s) s)) ≡ Some g
    → s.frame_index_len ≤ 4096 * s.frame_index_blocks → s.frame_index_blocks ≤ b
    → AtEndOf capacity b s g
at_end_by capacity b grow s g full no_more true l f n e i j = let z : ◌≡◌ {A = ℕ} 0 1 = cc in absurd (omega arith)
at_end_by capacity b grow s g true true false l f n e i j = let z : ◌≡◌ {A = ℕ} 0 1 = cc in absurd (omega arith)
at_end_by capacity b false s g true false false l f n e i j = let z : ◌≡◌ {A = ℕ} 0 1 = cc in absurd (omega arith)
at_end_by capacity b true s g true false false l f n e i j =
    let q : cells_with frame_index_blocks_cell (s.frame_index_blocks + 1) s ≡ g = cc in
    let r : s.frame_index_len ≡ g.frame_index_len = ap (λ (x : IndexCells). x.frame_index_len) q in
    let t : s.frame_index_blocks + 1 ≡ g.frame_index_blocks = ap (λ (x : IndexCells). x.frame_index_blocks) q in
    let below = leb-false capacity s.frame_index_len l in
    let more = leb-false b s.frame_index_blocks n in
    record { same_len = sym r; below_capacity = omega arith; below_blocks = omega arith; in_limit = omega arith }
at_end_by capacity b grow s g false no_more false l f n e i j =
    let q : s ≡ g = cc in
    let r : s.frame_index_len ≡ g.frame_index_len = ap (λ (x : IndexCells). x.frame_index_len) q in
    let t : s.frame_index_blocks ≡ g.frame_index_blocks = ap (λ (x : IndexCells). x.frame_index_blocks) q in
    let below = leb-false capacity s.frame_index_len l in
    let room = leb-false (entries_for s.frame_index_blocks) s.frame_index_len f in
    record { same_len = sym r; below_capacity = omega arith; below_blocks = omega arith; in_limit = omega arith }

pub at_end_of : (capacity b : ℕ) (grow : Bool) (s g : IndexCells) → placed capacity b grow s ≡ Some g → s.frame_index_len ≤ 4096 * s.frame_index_blocks → s.frame_index_blocks ≤ b → AtEndOf capacity b s g
unfolding placed
at_end_of capacity b grow s g e i j = at_end_by capacity b grow s g _ _ _ refl refl refl e i j

-- a frame that is not out of order is above the last one
pub above_last : (frame n : ℕ) (fs : List ℕ) → out_of_order frame n fs ≡ false → 0 < n → get_or fs (n - 1) 0 < frame
above_last frame n fs e l = go (ltb 0 n) (leb frame (get_or fs (n - 1) 0)) refl refl e
  where
    go : (t u : Bool) → ltb 0 n ≡ t → leb frame (get_or fs (n - 1) 0) ≡ u → (t && u) ≡ false → get_or fs (n - 1) 0 < frame
    go true true et eu z = let q : ◌≡◌ {A = ℕ} 0 1 = cc in absurd (omega arith)
    go true false et eu z = leb-false _ _ eu
    go false u et eu z = let q = ltb-false 0 n et in absurd (omega arith)

-- an entry's block, with the entry inserted, is built from its pages with the entry's
module _ (n page : ℕ) (ps : List ℕ) (room : n < length ps) where
  abbrev k : ℕ
  k = block_of n

  page_there : get_or (block_pages_of k (set ps n page)) (place_of n) 0 ≡ page
  page_there =
      let e : 4096 * (n / 4096) + n % 4096 ≡ n = omega arith in
      block_page k (set ps n page) (place_of n) (omega arith) ∙ (ap (λ (i : ℕ). get_or (set ps n page) i 0) e ∙ get_or-set_same ps n page 0 room)

  pub built_entry : built (block_pages_of k (set ps n page)) (place_of n + 1) ≡ inserted (built (block_pages_of k ps) (place_of n)) (place_of n) page
  built_entry =
      built_next (block_pages_of k (set ps n page)) (place_of n)
      ∙ ap₂ (λ (x : List ℕ) (y : ℕ). inserted x (place_of n) y) (built_set_past k (place_of n) n page ps (omega arith) (omega arith)) page_there

  pub built_first : place_of n ≡ 0 → inserted cleared 0 page ≡ built (block_pages_of k (set ps n page)) (place_of n + 1)
  built_first e = sym (built_entry ∙ (ap (λ (i : ℕ). inserted (built (block_pages_of k ps) i) i page) e ∙ ap (λ (x : List ℕ). inserted x 0 page) (built_none (block_pages_of k ps))))
