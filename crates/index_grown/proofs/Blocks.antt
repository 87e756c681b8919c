-- Blocks of a grown index: which stay built when one of them is written. Assumes nothing.
use mathlib.Core.Path.{◌≡◌, sym, ◌∙◌, ap}
use mathlib.Core.List.{List, ◌++◌}
use mathlib.Core.Logic.{◌⊎◌, inl, inr}
use Prim.Native.Nat.{ℕ, ◌+◌, ◌-◌, ◌*◌, ◌<◌, ◌≤◌, min}
use native.Mathlib.Nat.{eq-or-lt_of_le}
use native.Mathlib.Omega.{arith}
use lib.ListN.{length, take, drop, set, take-append-drop, length-drop}
use lib.Seq.{take-append-le, drop-append-le, get_or-set_other, length-take-le}
use Rattle.index_hash.specs.Block.{built}
use Rattle.index_hash.proofs.Built.{built_agree, built_length}
use Rattle.index_find.specs.Index.{block_cells_of, block_pages_of, with_block}
use Rattle.index_find.proofs.Blocks.{block_page, block_of_with}
use Rattle.index_grown.specs.Grown.{BlocksBuilt}

-- a block's cells are those of the cells before a later block
cells_before : (j k : ℕ) (a rest : List ℕ) → j < k → length a ≡ 8192 * k → block_cells_of j (a ++ rest) ≡ take 8192 (drop (8192 * j) a)
unfolding block_cells_of
cells_before j k a rest l e =
    rw (drop-append-le (8192 * j) a rest (omega arith), take-append-le 8192 (drop (8192 * j) a) rest (simp length-drop (omega arith)))

-- other cells for a later block leave this one
pub block_of_other : (j k : ℕ) (cells hash : List ℕ) → j < k → 8192 * k ≤ length hash → block_cells_of j (with_block k cells hash) ≡ block_cells_of j hash
unfolding with_block
block_of_other j k cells hash l fits =
    let e : length (take (8192 * k) hash) ≡ 8192 * k = length-take-le (8192 * k) hash fits in
    cells_before j k (take (8192 * k) hash) _ l e
    ∙ (sym (cells_before j k (take (8192 * k) hash) (drop (8192 * k) hash) l e) ∙ ap (block_cells_of j) (take-append-drop (8192 * k) hash))

-- a page stored past a block's first r entries leaves what is built from them
pub built_set_past : (k r n page : ℕ) (pages : List ℕ) → r ≤ 4096 → 4096 * k + r ≤ n → built (block_pages_of k (set pages n page)) r ≡ built (block_pages_of k pages) r
built_set_past k r n page pages l past =
    built_agree (block_pages_of k (set pages n page)) (block_pages_of k pages) r
    (λ i b. block_page k (set pages n page) i (omega arith) ∙ (get_or-set_other pages n (4096 * k + i) page 0 (λ e. absurd (omega arith)) ∙ sym (block_page k pages i (omega arith))))

-- the blocks before k are full and built, and block k is built from its first r entries: so the blocks of that many entries are built
pub with_last : (k r : ℕ) (pages hash : List ℕ) → 0 < r → r ≤ 4096 → 8192 * k + 8192 ≤ length hash
    → ((j : ℕ) → j < k → block_cells_of j hash ≡ built (block_pages_of j pages) 4096)
    → (n : ℕ) → n ≡ 4096 * k + r → BlocksBuilt n pages (with_block k (built (block_pages_of k pages) r) hash)
with_last k r pages hash some most fits full n e j l = go (eq-or-lt_of_le (omega arith))
  where
    go : (j ≡ k) ⊎ (j < k) → block_cells_of j (with_block k (built (block_pages_of k pages) r) hash) ≡ built (block_pages_of j pages) (min (n - 4096 * j) 4096)
    go (inl i) =
        let c : min (n - 4096 * j) 4096 ≡ r = omega arith in
        rw (c, i) (block_of_with k hash fits (built (block_pages_of k pages) r) (built_length (block_pages_of k pages) r))
    go (inr i) =
        let c : min (n - 4096 * j) 4096 ≡ 4096 = omega arith in
        block_of_other j k (built (block_pages_of k pages) r) hash i (omega arith) ∙ (full j i ∙ ap (built (block_pages_of j pages)) (sym c))

-- of built blocks, those that are full
pub full_blocks : (n : ℕ) (pages hash : List ℕ) → BlocksBuilt n pages hash → (k j : ℕ) → 4096 * k ≤ n → j < k → block_cells_of j hash ≡ built (block_pages_of j pages) 4096
full_blocks n pages hash all k j l b =
    let c : min (n - 4096 * j) 4096 ≡ 4096 = omega arith in
    all j (omega arith) ∙ ap (built (block_pages_of j pages)) c

-- fewer entries, to the end of a block
pub fewer_blocks : (n k : ℕ) (pages hash : List ℕ) → BlocksBuilt n pages hash → 4096 * k ≤ n → BlocksBuilt (4096 * k) pages hash
fewer_blocks n k pages hash all l j b =
    let c : min (4096 * k - 4096 * j) 4096 ≡ 4096 = omega arith in
    full_blocks n pages hash all k j l (omega arith) ∙ ap (built (block_pages_of j pages)) (sym c)
