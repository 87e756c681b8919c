-- The cell where an entry goes: the first empty one on the way from its page's home. Assumes nothing.
use mathlib.Core.Path.{◌≡◌, refl, subst}
use mathlib.Core.Bool.{Bool, true, false, cond}
use mathlib.Core.List.{List}
use Prim.Native.Nat.{ℕ, zero, suc, ◌+◌, ◌<◌}
use native.Mathlib.Omega.{arith}
use lib.Dec.{eqb}
use native.Mathlib.Decide.{ℕ_discrete}
use lib.ListN.{length, get_or, set}
use lib.Seq.{get_or-set_same, get_or-set_other}
use borrow.Author.Count.{below_more}
use borrow.Author.Tests.{eqb-true, eqb-false}
use Rattle.std.specs.Prelude.{Option, Some, None}
use Rattle.index_hash.specs.Home.{cell_at}
use Rattle.index_hash.specs.Block.{empty_from, empty_cell, named_in, inserted}
use Rattle.index_hash.proofs.Home.{cell_at_home, cell_at_next, cell_at_below}

-- what holds of both arms holds of the arm that a test picks
pub by_test : {A : Type 0} (P : A → Type 0) (t : Bool) {a b : A} → (t ≡ true → P a) → (t ≡ false → P b) → P (cond t a b)
by_test P true f g = f refl
by_test P false f g = g refl

-- every cell within j steps of the page's home is used
abbrev pub AllUsed : List ℕ → ℕ → ℕ → Type 0
AllUsed h page j = (k : ℕ) → k < j → get_or h (cell_at page k) 0 ≡ 0 → ⊥

-- cell c is empty, some steps from the page's home, and the cells before it on the way are used
pub record First (h : List ℕ) (page c : ℕ) : Type 0 where
  pub steps : ℕ
  pub within : steps < 8192
  pub at : cell_at page steps ≡ c
  pub empty : get_or h c 0 ≡ 0
  pub before : AllUsed h page steps

-- what the search says by its answer
abbrev pub Found : List ℕ → ℕ → Option ℕ → Type 0
Found h page (Some c) = First h page c
Found h page None = AllUsed h page 8192

module _ (h : List ℕ) (page : ℕ) where
  -- the search j steps from home, with every cell before used
  search_from : (m j : ℕ) → j + m ≡ 8192 → AllUsed h page j → Found h page (empty_from m h (cell_at page j))
  unfolding empty_from
  search_from zero j e all = λ k l. all k (omega arith)
  search_from (suc m) j e all =
      by_test (Found h page) (eqb (get_or h (cell_at page j) 0) 0)
      (λ t. record { steps = j; within = omega arith; at = refl; empty = eqb-true _ _ t; before = all })
      (λ t. rw (cell_at_next page j) (search_from m (j + 1) (omega arith) (below_more _ j all (eqb-false _ _ t))))

  -- the search's answer is the first empty cell, or every cell is used
  pub search_found : Found h page (empty_cell h page)
  unfolding empty_cell
  search_found = rw (← cell_at_home page) (search_from 8192 0 refl (λ k l. absurd (omega arith)))

  -- the cell that is found is the first empty one
  pub found_first : (c : ℕ) → empty_cell h page ≡ Some c → First h page c
  found_first c e = subst (Found h page) e search_found

  -- the cell that is found is one of the block
  pub found_below : (c : ℕ) → empty_cell h page ≡ Some c → c < 8192
  found_below c e = let f = found_first c e in let b = cell_at_below page f.steps in omega arith

-- insert, by the cell that is found
pub inserted_at : (h : List ℕ) (place page c : ℕ) → empty_cell h page ≡ Some c → inserted h place page ≡ set h c (place + 1)
unfolding inserted
inserted_at h place page c e = rw e

-- a full table stays as it is
pub inserted_full : (h : List ℕ) (place page : ℕ) → empty_cell h page ≡ None → inserted h place page ≡ h
unfolding inserted
inserted_full h place page e = rw e

-- what holds of the table with the cell set, whichever it is, and of the full table holds after an insertion
pub on_insert : (P : List ℕ → Type 0) (h : List ℕ) (place page : ℕ) → ((c : ℕ) → First h page c → P (set h c (place + 1))) → (AllUsed h page 8192 → P h) → P (inserted h place page)
unfolding inserted
on_insert P h place page some none = go (empty_cell h page) (search_found h page)
  where
    go : (x : Option ℕ) → Found h page x → P (named_in h place x)
    go (Some c) w = some c w
    go None w = none w

-- a cell after a store: the value stored, or what it was
pub set_cell : (P : ℕ → Type 0) (h : List ℕ) (c v k : ℕ) → c < length h → (k ≡ c → P v) → ((k ≡ c → ⊥) → P (get_or h k 0)) → P (get_or (set h c v) k 0)
set_cell P h c v k b same other = go (ℕ_discrete k c)
  where
    go : Dec (k ≡ c) → P (get_or (set h c v) k 0)
    go (yes e) = rw (e, get_or-set_same h c v 0 b) (same e)
    go (no e) = rw (get_or-set_other h c k v 0 e) (other e)
