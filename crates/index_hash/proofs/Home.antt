-- Laws of the home of a page and of the cells from it on. Assumes nothing.
use mathlib.Core.Path.{◌≡◌, sym, ap, ◌∙◌}
use Prim.Native.Nat.{ℕ, ◌+◌, ◌*◌, ◌/◌, ◌%◌, ◌^◌, ◌<◌}
use native.Mathlib.Nat.{mul-add-mod_self_left}
use native.Mathlib.Omega.{arith}
use Rattle.index_hash.specs.Home.{home, next_cell, cell_at}

-- a multiple of 8,192 more or less leaves the remainder
same_home : (x q r : ℕ) → x ≡ 8192 * q + r → r % 8192 ≡ x % 8192
same_home x q r e = sym (ap (λ (n : ℕ). n % 8192) e ∙ mul-add-mod_self_left 8192 q r)

-- the home is that of the page's remainder
pub home_of_remainder : (page : ℕ) → page % 8192 * 383 % 8192 ≡ home page
unfolding home
home_of_remainder page = same_home (page * 383) (page / 8192 * 383) (page % 8192 * 383) (omega arith)

-- the product may wrap at 2^64 without changing the home
pub home_wraps : (page : ℕ) → page * 383 % 2 ^ 64 % 8192 ≡ home page
unfolding home
home_wraps page = same_home (page * 383) (page * 383 / 2 ^ 64 * 2 ^ 51) (page * 383 % 2 ^ 64) (omega arith)

-- the home is a cell of the block
pub home_below : (page : ℕ) → home page < 8192
unfolding home
home_below page = omega arith

-- the first cell from home is the home
pub cell_at_home : (page : ℕ) → cell_at page 0 ≡ home page
unfolding cell_at
cell_at_home page = let h = home_below page in omega arith

-- one step more is the next cell
pub cell_at_next : (page j : ℕ) → next_cell (cell_at page j) ≡ cell_at page (j + 1)
unfolding cell_at next_cell
cell_at_next page j = omega arith

-- each cell from home on is a cell of the block
pub cell_at_below : (page j : ℕ) → cell_at page j < 8192
unfolding cell_at
cell_at_below page j = omega arith

-- within 8,192 steps no cell comes twice
pub cell_at_once : (page j k : ℕ) → j < 8192 → k < 8192 → cell_at page j ≡ cell_at page k → j ≡ k
unfolding cell_at
cell_at_once page j k l m e = omega arith
