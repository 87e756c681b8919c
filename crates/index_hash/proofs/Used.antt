-- Counting used cells: a block built from fewer than 8,192 entries has room for one more. Assumes nothing.
use mathlib.Core.Path.{◌≡◌, refl, sym, ap, ap₂, ◌∙◌, subst}
use mathlib.Core.Bool.{cond}
use mathlib.Core.List.{List, [], ◌∷◌}
use Prim.Native.Nat.{ℕ, zero, suc, ◌+◌, ◌<◌, ◌≤◌}
use mathlib.Core.Logic.{◌⊎◌, inl, inr}
use native.Mathlib.Nat.{eq-or-lt_of_le, le_of_suc-le-suc}
use native.Mathlib.Decide.{ℕ_discrete}
use native.Mathlib.Omega.{arith}
use lib.Dec.{eqb}
use lib.ListN.{length, get_or, set, replicate}
use lib.Seq.{get_or-set_same, get_or-set_other}
use borrow.Author.Tests.{eq-eqb, ne_eqb}
use Rattle.std.specs.Prelude.{Option, Some, None}
use Rattle.index_hash.specs.Home.{cell_at}
use Rattle.index_hash.specs.Block.{cleared, empty_cell, built, used}
use Rattle.index_hash.proofs.Home.{cell_at_once}
use Rattle.index_hash.proofs.Empty.{by_test, AllUsed, Found, search_found, on_insert}
use Rattle.index_hash.proofs.Built.{cleared_empty, built_length, first_fits}

-- 1 for a used cell, 0 for an empty one
abbrev one : ℕ → ℕ
one v = cond (eqb v 0) 0 1

one_le : (v : ℕ) → one v ≤ 1
one_le v = by_test (λ (n : ℕ). n ≤ 1) (eqb v 0) (λ t. omega arith) (λ t. omega arith)

-- the used cells within so many steps of the page's home
unfoldable pub used_within : List ℕ → ℕ → ℕ → ℕ
used_within h page zero = 0
used_within h page (suc m) = used_within h page m + one (get_or h (cell_at page m) 0)

-- all of them, if all are used
pub within_all : (h : List ℕ) (page m : ℕ) → AllUsed h page m → used_within h page m ≡ m
unfolding used_within
within_all h page zero all = refl
within_all h page (suc m) all = rw (within_all h page m (λ k l. all k (omega arith)), ne_eqb _ _ (all m (omega arith))) (omega arith)

-- none of them, if the table is cleared
within_none : (page m : ℕ) → used_within cleared page m ≡ 0
unfolding used_within
within_none page zero = refl
within_none page (suc m) = rw (within_none page m, cleared_empty (cell_at page m))

module _ (h : List ℕ) (page c v : ℕ) where
  -- a store in another cell leaves the number
  within_same : (m : ℕ) → ((k : ℕ) → k < m → cell_at page k ≡ c → ⊥) → used_within (set h c v) page m ≡ used_within h page m
  unfolding used_within
  within_same zero other = refl
  within_same (suc m) other =
      ap₂ (λ (x y : ℕ). x + one y) (within_same m (λ k l. other k (omega arith))) (get_or-set_other h c (cell_at page m) v 0 (other m (omega arith)))

  -- and any store adds one at the most
  within_set : (m : ℕ) → m ≤ 8192 → used_within (set h c v) page m ≤ used_within h page m + 1
  unfolding used_within
  within_set zero l = omega arith
  within_set (suc m) l = go (within_set m (omega arith)) (ℕ_discrete (cell_at page m) c)
    where
      go : used_within (set h c v) page m ≤ used_within h page m + 1 → Dec (cell_at page m ≡ c) → used_within (set h c v) page m + one (get_or (set h c v) (cell_at page m) 0) ≤ used_within h page m + one (get_or h (cell_at page m) 0) + 1
      go ih (yes e) =
          let s = within_same m (λ k b q. let z = cell_at_once page k m (omega arith) (omega arith) (q ∙ sym e) in absurd (omega arith)) in
          omega (arith, one_le (get_or (set h c v) (cell_at page m) 0))
      go ih (no e) = rw (get_or-set_other h c (cell_at page m) v 0 e) (omega arith)

-- on the way from any home a block has at most as many used cells as entries
pub within_le : (pages : List ℕ) (n page m : ℕ) → m ≤ 8192 → used_within (built pages n) page m ≤ n
unfolding built
within_le pages zero page m l = rw (within_none page m) (omega arith)
within_le pages (suc n) page m l =
    let before = within_le pages n page m l in
    on_insert (λ (h : List ℕ). used_within h page m ≤ suc n) (built pages n) n (get_or pages n 0)
    (λ c w. omega (arith, within_set (built pages n) page c (n + 1) m l))
    (λ full. omega arith)

-- so with fewer than 8,192 entries some cell on the way is empty
pub not_all_used : (pages : List ℕ) (n page : ℕ) → n < 8192 → AllUsed (built pages n) page 8192 → ⊥
not_all_used pages n page l all =
    let e = within_all (built pages n) page 8192 all in
    let b = within_le pages n page 8192 (omega arith) in
    omega arith

-- and the search for an empty cell finds one
pub never_full : (pages : List ℕ) (n page : ℕ) → n < 8192 → empty_cell (built pages n) page ≡ None → ⊥
never_full pages n page l e = not_all_used pages n page l (subst (Found (built pages n) page) e (search_found (built pages n) page))

-- of a table that equals such a block
pub room_left : (pages h : List ℕ) (n page : ℕ) → h ≡ built pages n → n < 8192 → empty_cell h page ≡ None → ⊥
room_left pages h n page e l f = never_full pages n page l (rw e at f)

-- the same, with the cell
pub has_room : (pages : List ℕ) (n page : ℕ) → n < 8192 → (c : ℕ) × (empty_cell (built pages n) page ≡ Some c)
has_room pages n page l = go (empty_cell (built pages n) page) refl
  where
    go : (x : Option ℕ) → empty_cell (built pages n) page ≡ x → (c : ℕ) × (empty_cell (built pages n) page ≡ Some c)
    go (Some c) e = (c, e)
    go None e = absurd (never_full pages n page l e)

-- a store in an empty cell is one used cell more
used_set : (h : List ℕ) (c v : ℕ) → c < length h → get_or h c 0 ≡ 0 → used (set h c (v + 1)) ≡ used h + 1
unfolding used
used_set [] c v l z = absurd (omega arith)
used_set (x ∷ h) zero v l z = rw (eq-eqb _ _ z, ne_eqb (v + 1) 0 (λ e. absurd (omega arith))) (omega arith)
used_set (x ∷ h) (suc c) v l z = rw (used_set h c v (omega arith) z) (omega arith)

used_zeros : (n : ℕ) → used (replicate n 0) ≡ 0
unfolding used
used_zeros zero = refl
used_zeros (suc n) = rw (used_zeros n)

-- as many used cells as entries
pub used_built : (pages : List ℕ) (n : ℕ) → n ≤ 8192 → used (built pages n) ≡ n
unfolding built cleared
used_built pages zero l = used_zeros 8192
used_built pages (suc n) l =
    let before = used_built pages n (omega arith) in
    on_insert (λ (h : List ℕ). used h ≡ suc n) (built pages n) n (get_or pages n 0)
    (λ c w. used_set (built pages n) c n (first_fits pages n _ c w) w.empty ∙ omega arith)
    (λ full. absurd (not_all_used pages n _ (omega arith) full))

-- some cell names the place
abbrev pub Named : List ℕ → ℕ → Type 0
Named h i = (c : ℕ) × ((c < 8192) × (get_or h c 0 ≡ i + 1))

-- each entry's place is named by some cell
pub built_named : (pages : List ℕ) (n i : ℕ) → n ≤ 8192 → i < n → Named (built pages n) i
unfolding built
built_named pages zero i l b = absurd (omega arith)
built_named pages (suc n) i l b =
    on_insert (λ (h : List ℕ). Named h i) (built pages n) n (get_or pages n 0)
    (λ c w. go (λ s. built_named pages n i (omega arith) s) c (first_fits pages n _ c w) w.empty (eq-or-lt_of_le (le_of_suc-le-suc b)))
    (λ full. absurd (not_all_used pages n _ (omega arith) full))
  where
    go : (i < n → Named (built pages n) i) → (c : ℕ) → c < length (built pages n) → get_or (built pages n) c 0 ≡ 0 → (i ≡ n) ⊎ (i < n) → Named (set (built pages n) c (n + 1)) i
    go older c f z (inl e) = (c, (rw (built_length pages n) at f, get_or-set_same (built pages n) c (n + 1) 0 f ∙ omega arith))
    go older c f z (inr s) =
        let o = older s in
        (o.0, (o.1.0, get_or-set_other (built pages n) c o.0 (n + 1) 0 (λ e. absurd (omega (arith, sym o.1.1 ∙ ap (λ (k : ℕ). get_or (built pages n) k 0) e ∙ z))) ∙ o.1.1))
