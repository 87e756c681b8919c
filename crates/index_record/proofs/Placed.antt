-- What is known of the place of a new entry. Assumes nothing.
use mathlib.Core.Path.{◌≡◌, refl, sym, ◌∙◌, ap}
use mathlib.Core.Bool.{Bool, true, false, not, ◌&&◌, ◌||◌, cond}
use Prim.Native.Nat.{ℕ, ◌+◌, ◌*◌, ◌<◌, ◌≤◌}
use native.Mathlib.Omega.{arith}
use lib.Dec.{leb}
use borrow.Author.Tests.{leb-false}
use Rattle.wal_types.specs.declared.Header.{Header}
use Rattle.wal_types.specs.Settings.{entries_for}
use Rattle.wal_types.specs.Memory.{frame_index_len_cell, frame_index_overflowed_cell, frame_index_blocks_cell}
use Rattle.index_end.specs.declared.cells.IndexCells.{IndexCells}
use Rattle.std.specs.Prelude.{Option, Some, None}
use Rattle.index_find.specs.Index.{index_refusal, HasRoom}
use Rattle.index_end.specs.Cells.{cells_of, cells_with}
use Rattle.index_end.specs.Place.{resets, started, blocks_full, placed}
use Rattle.index_find.proofs.Settings.{GoodSettings, LongEnough, passed_settings, passed_long}

module _ (frame : ℕ) (h : Header) where
  -- a reset leaves the blocks, and makes the length no greater
  pub started_blocks : (started frame h).frame_index_blocks ≡ h.frame_index_blocks
  unfolding started
  started_blocks = go (resets frame h)
    where
      go : (r : Bool) → (cond r (cells_with frame_index_overflowed_cell 0 (cells_with frame_index_len_cell 0 (cells_of h))) (cells_of h)).frame_index_blocks ≡ h.frame_index_blocks
      go true = refl
      go false = refl

  pub started_len : (started frame h).frame_index_len ≤ h.frame_index_len
  unfolding started
  started_len = go (resets frame h)
    where
      go : (r : Bool) → (cond r (cells_with frame_index_overflowed_cell 0 (cells_with frame_index_len_cell 0 (cells_of h))) (cells_of h)).frame_index_len ≤ h.frame_index_len
      go true = omega arith
      go false = omega arith

-- the place of an entry, by the tests that lead to it
at_end_by : (capacity b : ℕ) (grow : Bool) (s g : IndexCells) (full no_more beyond : Bool) → leb capacity s.frame_index_len ≡ beyond → blocks_full s ≡ full → leb b s.frame_index_blocks ≡ no_more
    → cond (beyond || (full && (no_more || not grow))) None (Some (cond full (cells_with frame_index_blocks_cell (s.frame_index_blocks + 1) s) s)) ≡ Some g
    → s.frame_index_len ≤ 4096 * s.frame_index_blocks → s.frame_index_blocks ≤ b
    → (g.frame_index_len < capacity) × (g.frame_index_len < 4096 * b)
at_end_by capacity b grow s g full no_more true l f n e i j = let z : ◌≡◌ {A = ℕ} 0 1 = cc in absurd (omega arith)
at_end_by capacity b grow s g true true false l f n e i j = let z : ◌≡◌ {A = ℕ} 0 1 = cc in absurd (omega arith)
at_end_by capacity b false s g true false false l f n e i j = let z : ◌≡◌ {A = ℕ} 0 1 = cc in absurd (omega arith)
at_end_by capacity b true s g true false false l f n e i j =
    let q : cells_with frame_index_blocks_cell (s.frame_index_blocks + 1) s ≡ g = cc in
    let r : s.frame_index_len ≡ g.frame_index_len = ap (λ (x : IndexCells). x.frame_index_len) q in
    let below = leb-false capacity s.frame_index_len l in
    let more = leb-false b s.frame_index_blocks n in
    (omega arith, omega arith)
at_end_by capacity b grow s g false no_more false l f n e i j =
    let q : s ≡ g = cc in
    let r : s.frame_index_len ≡ g.frame_index_len = ap (λ (x : IndexCells). x.frame_index_len) q in
    let below = leb-false capacity s.frame_index_len l in
    let room = leb-false (entries_for s.frame_index_blocks) s.frame_index_len f in
    (omega arith, omega arith)

-- the place, by the steps that lead to it
pub place_found : (capacity b frame : ℕ) (grow : Bool) (h : Header) (s : IndexCells) (r place : Option IndexCells) → s ≡ started frame h → r ≡ placed capacity b grow s → r ≡ place → placed capacity b grow (started frame h) ≡ place
place_found capacity b frame grow h s r place es er ep = ap (placed capacity b grow) (sym es) ∙ (sym er ∙ ep)

-- a place has room in memory that is long enough
pub place_room : (capacity b frame : ℕ) (grow : Bool) (h : Header) (g : IndexCells) (pages frames hash : ℕ) → GoodSettings capacity b h → LongEnough b pages frames hash → placed capacity b grow (started frame h) ≡ Some g → HasRoom g.frame_index_len pages frames hash
unfolding placed
place_room capacity b frame grow h g pages frames hash good long e =
    let s = started frame h in
    let sb = started_blocks frame h in
    let sl = started_len frame h in
    let r = at_end_by capacity b grow (started frame h) g _ _ _ refl refl refl e (omega arith) (omega arith) in
    record { below_most = omega arith; page_room = omega arith; frame_room = omega arith; hash_room = omega arith }

module _ (capacity b frame : ℕ) (h : Header) (pages frames hash : ℕ) (passed : index_refusal capacity b h pages frames hash ≡ 0) where
  -- what the search for a place asks
  pub place_asks : (s : IndexCells) → s ≡ started frame h → (s.frame_index_blocks ≤ b) × (b ≤ 16)
  place_asks s e =
      let good = passed_settings capacity b h pages frames hash passed in
      let blocks = ap (λ (x : IndexCells). x.frame_index_blocks) e ∙ started_blocks frame h in
      (omega (arith, blocks), omega arith)

  -- so a place has room in the lent parts
  pub passed_room : (grow : Bool) (g : IndexCells) → placed capacity b grow (started frame h) ≡ Some g → HasRoom g.frame_index_len pages frames hash
  passed_room grow g e =
      place_room capacity b frame grow h g pages frames hash (passed_settings capacity b h pages frames hash passed) (passed_long capacity b h pages frames hash passed) e
