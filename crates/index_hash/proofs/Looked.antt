-- How many cells a probe looks at: of a built block, and of any. Assumes nothing.
use mathlib.Core.Path.{◌≡◌, refl}
use mathlib.Core.List.{List}
use Prim.Native.Nat.{ℕ, zero, suc, ◌+◌, ◌-◌, ◌≤◌}
use native.Mathlib.Omega.{arith}
use lib.Dec.{eqb, ltb}
use lib.ListN.{get_or}
use borrow.Author.Count.{below_more}
use borrow.Author.Tests.{eqb-false}
use Rattle.index_hash.specs.Home.{home, next_cell, cell_at}
use Rattle.index_hash.specs.Block.{built, looked_from, looked}
use Rattle.index_hash.proofs.Home.{cell_at_home, cell_at_next}
use Rattle.index_hash.proofs.Empty.{by_test, AllUsed}
use Rattle.index_hash.proofs.Used.{within_all, within_le}

-- the cells passed are used, so there are at most as many as entries; one more ends the probe
module _ (pages : List ℕ) (n page visible : ℕ) where
  from : (m j : ℕ) → j + m ≡ 8192 → AllUsed (built pages n) page j → j + looked_from m (built pages n) visible (cell_at page j) ≤ n + 1
  unfolding looked_from
  from zero j e all = let u = within_all (built pages n) page j all in let b = within_le pages n page j (omega arith) in omega arith
  from (suc m) j e all =
      let u = within_all (built pages n) page j all in
      let b = within_le pages n page j (omega arith) in
      by_test (λ (x : ℕ). j + x ≤ n + 1) (eqb (get_or (built pages n) (cell_at page j) 0) 0) (λ t. omega arith)
      (λ t. by_test (λ (x : ℕ). j + x ≤ n + 1) (ltb (get_or (built pages n) (cell_at page j) 0 - 1) visible)
      (λ s. rw (cell_at_next page j) (omega (arith, from m (j + 1) (omega arith) (below_more _ j all (eqb-false _ _ t)))))
      (λ s. omega arith))

  -- at most one more than the block has entries
  pub looked_le : looked (built pages n) page visible ≤ n + 1
  unfolding looked
  looked_le = rw (← cell_at_home page) (omega (arith, from 8192 0 refl (λ k l. absurd (omega arith))))

-- on any contents no more than there are cells
looked_from_le : (m : ℕ) (h : List ℕ) (visible cell : ℕ) → looked_from m h visible cell ≤ m
unfolding looked_from
looked_from_le zero h visible cell = omega arith
looked_from_le (suc m) h visible cell =
    by_test (λ (x : ℕ). x ≤ suc m) (eqb (get_or h cell 0) 0) (λ t. omega arith)
    (λ t. by_test (λ (x : ℕ). x ≤ suc m) (ltb (get_or h cell 0 - 1) visible)
    (λ s. omega (arith, looked_from_le m h visible (next_cell cell)))
    (λ s. omega arith))

pub looked_cells : (h : List ℕ) (page visible : ℕ) → looked h page visible ≤ 8192
unfolding looked
looked_cells h page visible = looked_from_le 8192 h visible (home page)
