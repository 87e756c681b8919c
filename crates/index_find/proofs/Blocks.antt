-- One block's hash as a part of the whole. Assumes nothing.
use mathlib.Core.Path.{◌≡◌, ◌∙◌, sym, ap}
use mathlib.Core.List.{List, []}
use Rattle.std.specs.Simd.{first_chunks}
use Prim.Native.Nat.{ℕ, zero, suc, ◌+◌, ◌-◌, ◌*◌, ◌<◌, ◌≤◌, min}
use native.Mathlib.Omega.{arith}
use lib.ListN.{length, take, drop, set, get_or, length-append, length-take, length-drop}
use lib.Seq.{take_at, drop_at, get_or-take, get_or-drop, length-take-le, take-take, drop-drop}
use borrow.Rule.Slice.PartMut.{put_mid, set_mid_at}
use Rattle.index_hash.specs.Block.{built}
use Rattle.index_hash.proofs.Built.{built_front}
use Rattle.index_find.specs.Index.{block_of, place_of, block_cells_of, block_pages_of, with_block}
use Rattle.index_find.specs.Find.{visible_pages_of}

-- the whole blocks of a hash, each at its place
chunk : (n m k : ℕ) (xs : List ℕ) → k < m → get_or (first_chunks n m xs) k [] ≡ take n (drop (n * k) xs)
chunk n zero k xs l = absurd (omega arith)
chunk n (suc m) zero xs l = let none : n * 0 ≡ 0 = omega arith in rw none
chunk n (suc m) (suc k) xs l = let next : n * suc k ≡ n + n * k = omega arith in rw next (chunk n m k (drop n xs) (omega arith) ∙ ap (take n) (drop-drop (n * k) n xs))

pub chunk_cells : (m k : ℕ) (h : List ℕ) → k < m → get_or (first_chunks 8192 m h) k [] ≡ block_cells_of k h
unfolding block_cells_of
chunk_cells m k h l = chunk 8192 m k h l

-- the pages of block k's visible entries
pub mid_visible : (k n v : ℕ) (ps : List ℕ) → v ≡ min (n - 4096 * k) 4096 → take (4096 * k + v - 4096 * k) (drop (4096 * k) ps) ≡ visible_pages_of k n ps
unfolding block_pages_of
mid_visible k n v ps e =
    let s : 4096 * k + v - 4096 * k ≡ v = omega arith in
    rw (s, e) (sym (take-take (min (n - 4096 * k) 4096) 4096 (drop (4096 * k) ps) (omega arith)))

pub length_visible : (k n : ℕ) (ps : List ℕ) → 4096 * k + 4096 ≤ length ps → length (visible_pages_of k n ps) ≡ min (n - 4096 * k) 4096
unfolding block_pages_of
length_visible k n ps l = simp (length-take, length-drop) (omega arith)

-- page i of block k
pub block_page : (k : ℕ) (ps : List ℕ) (i : ℕ) → i < 4096 → get_or (block_pages_of k ps) i 0 ≡ get_or ps (4096 * k + i) 0
unfolding block_pages_of
block_page k ps i l = get_or-take {A = ℕ} 4096 (drop (4096 * k) ps) i 0 l ∙ get_or-drop {A = ℕ} (4096 * k) ps i 0

-- a table built from the pages of the last block's first entries alone, where there are n entries
pub built_part : (n : ℕ) (ps : List ℕ) → n ≤ length ps
    → built (take (n - 4096 * block_of n) (drop (4096 * block_of n) ps)) (length (take (n - 4096 * block_of n) (drop (4096 * block_of n) ps))) ≡ built (block_pages_of (block_of n) ps) (place_of n)
unfolding block_pages_of
built_part n ps l =
    let part : n - 4096 * block_of n ≡ place_of n = omega arith in
    let all : length (take (place_of n) (drop (4096 * block_of n) ps)) ≡ place_of n = simp (length-take, length-drop) (omega arith) in
    let tail = drop (4096 * block_of n) ps in
    rw (part, all) (built_front tail (place_of n) (place_of n) (omega arith) ∙ sym (built_front tail 4096 (place_of n) (omega arith)))

module _ (k : ℕ) (h : List ℕ) where
  -- the part that is lent of block k
  pub mid_cells : take (8192 * k + 8192 - 8192 * k) (drop (8192 * k) h) ≡ block_cells_of k h
  unfolding block_cells_of
  mid_cells = let e : 8192 * k + 8192 - 8192 * k ≡ 8192 = omega arith in rw e

  pub mid_pages : take (4096 * k + 4096 - 4096 * k) (drop (4096 * k) h) ≡ block_pages_of k h
  unfolding block_pages_of
  mid_pages = let e : 4096 * k + 4096 - 4096 * k ≡ 4096 = omega arith in rw e

  -- and the whole when it is back
  pub put_block : (cells : List ℕ) → put_mid (8192 * k) (8192 * k + 8192 - 8192 * k) h cells ≡ with_block k cells h
  unfolding with_block
  put_block cells = let e : 8192 * k + 8192 - 8192 * k ≡ 8192 = omega arith in rw e

  module _ (fits : 8192 * k + 8192 ≤ length h) where
    pub length_block : length (block_cells_of k h) ≡ 8192
    unfolding block_cells_of
    length_block = simp (length-take, length-drop) (omega arith)

    pub length_with : (cells : List ℕ) → length cells ≡ 8192 → length (with_block k cells h) ≡ length h
    unfolding with_block
    length_with cells e = simp (length-append, length-take, length-drop, e) (omega arith)

    -- the block that was put is the block that is there
    pub block_of_with : (cells : List ℕ) → length cells ≡ 8192 → block_cells_of k (with_block k cells h) ≡ cells
    unfolding block_cells_of with_block
    block_of_with cells e =
        let l : length (take (8192 * k) h) ≡ 8192 * k = length-take-le (8192 * k) h (omega arith) in
        rw (drop_at _ _ _ l, take_at _ _ _ e)

    -- put twice, the last one stays
    pub with_with : (a b : List ℕ) → length a ≡ 8192 → with_block k b (with_block k a h) ≡ with_block k b h
    unfolding with_block
    with_with a b e =
        let l : length (take (8192 * k) h) ≡ 8192 * k = length-take-le (8192 * k) h (omega arith) in
        rw (take_at _ _ _ l, drop_at _ _ _ l, drop_at _ _ _ e)

    -- a store to a cell of the block
    pub set_in_block : (cell v : ℕ) → cell < 8192 → set h (8192 * k + cell) v ≡ with_block k (set (block_cells_of k h) cell v) h
    unfolding block_cells_of with_block
    set_in_block cell v c = sym (set_mid_at (8192 * k) 8192 cell h v (simp (length-take, length-drop) (omega arith)))
