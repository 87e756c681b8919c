-- Turns of a lookup: one block's probe, and the blocks from the last down. Assumes nothing.
use mathlib.Core.Path.{◌≡◌, refl, sym, ◌∙◌, ap}
use mathlib.Core.Bool.{false, false≢true, cond}
use mathlib.Core.List.{List}
use Prim.Native.Nat.{ℕ, zero, suc, ◌+◌, ◌-◌, ◌*◌, ◌<◌, ◌≤◌, min}
use native.Mathlib.Omega.{arith}
use lib.ListN.{length, get_or}
use borrow.Author.Tests.{le-leb, lt-leb}
use Rattle.std.specs.Prelude.{Option, Some, None, is_some, IsSome}
use Rattle.wal_types.specs.Settings.{within}
use Rattle.index_hash.specs.Block.{probe, looked}
use Rattle.index_find.proofs.Blocks.{length_visible}
use Rattle.index_hash.proofs.Probed.{probe_below, probe_front}
use Rattle.index_hash.proofs.Looked.{looked_cells}
use Rattle.index_find.specs.Index.{block_cells_of, block_pages_of}
use Rattle.index_find.specs.Find.{visible_pages_of, probe_block, looked_block, looked_up, else_look, find_in, if_none, summed_in, looked_in}
use Rattle.index_find.specs.InnerFound.{InBlock}

if_none_le : (r : Option ℕ) (n : ℕ) → if_none r n ≤ n
if_none_le (Some f) n = omega arith
if_none_le None n = omega arith

if_none_some : (r : Option ℕ) (n : ℕ) → IsSome r → if_none r n ≡ 0
if_none_some (Some f) n e = refl
if_none_some None n e = absurd (false≢true e)

if_none_none : (r : Option ℕ) (n : ℕ) → is_some r ≡ false → if_none r n ≡ n
if_none_none (Some f) n e = absurd (false≢true (sym e))
if_none_none None n e = refl

-- the place that a block's probe finds is one of its 4,096
pub found_in_block : (k page n : ℕ) (ps hs : List ℕ) (r : Option ℕ) → r ≡ probe_block k page n ps hs → InBlock r
found_in_block k page n ps hs (Some i) e =
    let l = probe_below (block_cells_of k hs) (block_pages_of k ps) page (min (n - 4096 * k) 4096) i (sym e) in
    omega arith
found_in_block k page n ps hs None e = tt

-- a probe is lent the visible entries of its block
pub probe_visible : (k n page : ℕ) (ps hs part cells : List ℕ) → 4096 * k + 4096 ≤ length ps → part ≡ visible_pages_of k n ps → cells ≡ block_cells_of k hs
    → (probe cells part page (length part) ≡ probe_block k page n ps hs) × (looked cells page (length part) ≡ looked_block k page n hs)
probe_visible k n page ps hs part cells l e f =
    let v : length part ≡ min (n - 4096 * k) 4096 = ap length e ∙ length_visible k n ps l in
    let whole = probe_front (block_cells_of k hs) (block_pages_of k ps) page (min (n - 4096 * k) 4096) (min (n - 4096 * k) 4096) (length_visible k n ps l) refl in
    (rw (v, e, f) whole, rw (v, f))

-- a probe looks at no more cells than its block has
pub block_most : (k page n : ℕ) (hs : List ℕ) → looked_block k page n hs ≤ 8192
block_most k page n hs = looked_cells (block_cells_of k hs) page (min (n - 4096 * k) 4096)

module _ (k : ℕ) (frames : List ℕ) (low high : ℕ) (found : Option ℕ) (i : ℕ) (at : found ≡ Some i) where
  abbrev frame : ℕ
  frame = get_or frames (4096 * k + i) 0

  here : looked_up k frames low high found ≡ cond (within low high frame) (Some frame) None
  here = ap (looked_up k frames low high) at

  -- an entry out of bounds: no frame
  pub look_below : frame < low → None ≡ looked_up k frames low high found
  look_below l = rw (here, lt-leb low frame l)

  pub look_above : low ≤ frame → high < frame → None ≡ looked_up k frames low high found
  look_above a l = rw (here, le-leb low frame a, lt-leb frame high l)

  pub look_here : low ≤ frame → frame ≤ high → Some frame ≡ looked_up k frames low high found
  look_here a l = rw (here, le-leb low frame a, le-leb frame high l)

module _ (n : ℕ) (ps fs hs : List ℕ) (page low high : ℕ) where
  abbrev in_blocks : ℕ → Option ℕ
  in_blocks k = find_in k n ps fs hs page low high

  abbrev in_block : ℕ → Option ℕ
  in_block k = looked_up k fs low high (probe_block k page n ps hs)

  -- what is looked up by the probe of a block
  pub looked_in_block : (k : ℕ) (r : Option ℕ) (probed : Option ℕ) → r ≡ looked_up k fs low high probed → probed ≡ probe_block k page n ps hs → r ≡ in_block k
  looked_in_block k r probed e f = e ∙ ap (looked_up k fs low high) f

  next_block : (k : ℕ) → in_blocks (suc k) ≡ else_look (in_block k) (in_blocks k)
  unfolding find_in
  next_block k = refl

  -- the last block of k has the frame, or the blocks before decide
  last_block : (k : ℕ) (r : Option ℕ) → 0 < k → r ≡ in_block (k - 1) → in_blocks k ≡ else_look r (in_blocks (k - 1))
  last_block zero r l e = absurd (omega arith)
  last_block (suc k) r l e = let s : suc k - 1 ≡ k = omega arith in rw (e, s) (next_block k)

  pub block_found : (k : ℕ) (r : Option ℕ) → 0 < k → r ≡ in_block (k - 1) → IsSome r → r ≡ in_blocks k
  block_found k (Some f) l e g = sym (last_block k (Some f) l e)
  block_found k None l e g = absurd (false≢true g)

  pub block_passed : (k : ℕ) (r : Option ℕ) → 0 < k → r ≡ in_block (k - 1) → is_some r ≡ false → in_blocks (k - 1) ≡ in_blocks k
  block_passed k (Some f) l e g = absurd (false≢true (sym g))
  block_passed k None l e g = sym (last_block k None l e)

  -- the block taken last is put back
  pub block_back : (k : ℕ) → 0 < k → in_blocks (k - 1 + 1) ≡ in_blocks k
  block_back k l = let e : k - 1 + 1 ≡ k = omega arith in ap in_blocks e

  pub blocks_done : (k : ℕ) → k ≤ 0 → None ≡ in_blocks k
  unfolding find_in
  blocks_done zero l = refl
  blocks_done (suc k) l = absurd (omega arith)

  -- THE CELLS LOOKED AT, block by block
  abbrev of_block : ℕ → ℕ
  of_block k = looked_block k page n hs

  abbrev cells : ℕ → ℕ
  cells k = looked_in k n ps fs hs page low high

  next_cells : (k : ℕ) → cells (suc k) ≡ of_block k + if_none (in_block k) (cells k)
  unfolding summed_in
  next_cells k = refl

  -- c are counted, and the last block of k has d: those of the blocks before count only where it has no frame
  module _ (k c d total : ℕ) (l : 0 < k) (so_far : c + cells k ≡ total) (here : d ≡ of_block (k - 1)) (r : Option ℕ) (looked_here : r ≡ in_block (k - 1)) where
    split : c + (d + if_none r (cells (k - 1))) ≡ total
    split =
        let e : k ≡ suc (k - 1) = omega arith in
        let s : cells k ≡ of_block (k - 1) + if_none r (cells (k - 1)) = ap cells e ∙ next_cells (k - 1) ∙ ap (λ (x : Option ℕ). of_block (k - 1) + if_none x (cells (k - 1))) (sym looked_here) in
        omega arith

    pub cells_found : IsSome r → c + d ≡ total
    cells_found g = omega (arith, split, if_none_some r (cells (k - 1)) g)

    pub cells_passed : is_some r ≡ false → c + d + cells (k - 1) ≡ total
    cells_passed g = omega (arith, split, if_none_none r (cells (k - 1)) g)

  -- the block taken last is put back
  pub cells_back : (k c total : ℕ) → 0 < k → c + cells k ≡ total → c + cells (k - 1 + 1) ≡ total
  cells_back k c total l e = let s : k - 1 + 1 ≡ k = omega arith in rw s e

  pub cells_done : (k c total : ℕ) → k ≤ 0 → c + cells k ≡ total → c ≡ total
  unfolding summed_in
  cells_done zero c total l e = omega (arith, e)
  cells_done (suc k) c total l e = absurd (omega arith)

  -- no more than the blocks have
  pub cells_most : (k : ℕ) → cells k ≤ 8192 * k
  unfolding summed_in
  cells_most zero = omega arith
  cells_most (suc k) = omega (arith, block_most k page n hs, if_none_le (in_block k) (cells k), cells_most k)

  -- so there is room to count one block more
  pub cells_small : (k blocks c d j : ℕ) → c + cells k ≡ cells blocks → blocks ≤ 16 → d ≡ of_block j → c + d ≤ 17 * 8192
  cells_small k blocks c d j e l here = omega (arith, cells_most blocks, block_most j page n hs)
