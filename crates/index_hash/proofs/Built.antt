-- A block built by inserting the entries in order. Assumes nothing.
use mathlib.Core.Path.{◌≡◌, refl, sym, ap, ap₂, ◌∙◌}
use mathlib.Core.List.{List}
use Prim.Native.Nat.{ℕ, zero, suc, ◌+◌, ◌<◌, ◌≤◌}
use native.Mathlib.Numerals.{add-one}
use native.Mathlib.Omega.{arith}
use lib.ListN.{length, get_or, set, take, replicate, length-set, length-replicate}
use lib.Seq.{get_or-take, get_or-set_other}
use Rattle.std.specs.Prelude.{Some}
use Rattle.index_hash.specs.Block.{cleared, empty_cell, inserted, built}
use Rattle.index_hash.proofs.Home.{cell_at_below}
use Rattle.index_hash.proofs.Empty.{First, inserted_at, on_insert, set_cell}

-- no entries: cleared
pub built_none : (pages : List ℕ) → built pages 0 ≡ cleared
unfolding built
built_none pages = refl

-- one entry more is one insertion more
pub built_next : (pages : List ℕ) (n : ℕ) → built pages (n + 1) ≡ inserted (built pages n) n (get_or pages n 0)
unfolding built
built_next pages n = rw add-one

-- so it is for a table that equals the one built
pub built_more : (pages h : List ℕ) (n : ℕ) → h ≡ built pages n → inserted h n (get_or pages n 0) ≡ built pages (n + 1)
built_more pages h n e = ap (λ (l : List ℕ). inserted l n (get_or pages n 0)) e ∙ sym (built_next pages n)

-- so it is where that entry is named in the cell where it goes
pub built_at : (pages h : List ℕ) (n c : ℕ) → h ≡ built pages n → empty_cell h (get_or pages n 0) ≡ Some c → set h c (n + 1) ≡ built pages (n + 1)
built_at pages h n c e f = sym (inserted_at h n (get_or pages n 0) c f) ∙ built_more pages h n e

-- only the first n pages matter
pub built_agree : (pages pages' : List ℕ) (n : ℕ) → ((i : ℕ) → i < n → get_or pages i 0 ≡ get_or pages' i 0) → built pages n ≡ built pages' n
unfolding built
built_agree pages pages' zero same = refl
built_agree pages pages' (suc n) same =
    ap₂ (λ (h : List ℕ) (page : ℕ). inserted h n page) (built_agree pages pages' n (λ i l. same i (omega arith))) (same n (omega arith))

-- so the first n of them give the same
pub built_front : (pages : List ℕ) (n v : ℕ) → v ≤ n → built (take n pages) v ≡ built pages v
built_front pages n v l = built_agree (take n pages) pages v (λ i b. get_or-take {A = ℕ} n pages i 0 (omega arith))

-- a store at a place from n on changes nothing
pub built_set : (pages : List ℕ) (n i page : ℕ) → n ≤ i → built (set pages i page) n ≡ built pages n
built_set pages n i page l = built_agree (set pages i page) pages n (λ k b. get_or-set_other pages i k page 0 (λ e. absurd (omega arith)))

zeros : (n c : ℕ) → get_or {A = ℕ} (replicate n 0) c 0 ≡ 0
zeros zero c = refl
zeros (suc n) zero = refl
zeros (suc n) (suc c) = zeros n c

-- all cells of a cleared table are empty
pub cleared_empty : (c : ℕ) → get_or cleared c 0 ≡ 0
unfolding cleared
cleared_empty c = zeros 8192 c

-- 8,192 cells
pub built_length : (pages : List ℕ) (n : ℕ) → length (built pages n) ≡ 8192
unfolding built cleared
built_length pages zero = length-replicate {A = ℕ} 8192 0
built_length pages (suc n) =
    on_insert (λ (l : List ℕ). length l ≡ 8192) (built pages n) n (get_or pages n 0) (λ c w. simp length-set (built_length pages n)) (λ full. built_length pages n)

pub built_cells : (pages h : List ℕ) (n : ℕ) → h ≡ built pages n → length h ≡ 8192
built_cells pages h n e = ap length e ∙ built_length pages n

-- the cell found is one of the block's
pub first_fits : (pages : List ℕ) (n page c : ℕ) → First (built pages n) page c → c < length (built pages n)
first_fits pages n page c w = let b = cell_at_below page w.steps in let l = built_length pages n in let e = w.at in omega arith

-- each cell is at most the number of entries
pub built_cell_le : (pages : List ℕ) (n k : ℕ) → get_or (built pages n) k 0 ≤ n
unfolding built
built_cell_le pages zero k = rw (cleared_empty k) (omega arith)
built_cell_le pages (suc n) k =
    let before = built_cell_le pages n k in
    on_insert (λ (l : List ℕ). get_or l k 0 ≤ suc n) (built pages n) n (get_or pages n 0)
    (λ c w. set_cell (λ (v : ℕ). v ≤ suc n) (built pages n) c (n + 1) k (first_fits pages n _ c w) (λ e. omega arith) (λ e. omega arith))
    (λ full. omega arith)
