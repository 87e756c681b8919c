-- Runs of one page, and the entries within the bounds, one at a time. Assumes nothing.
use mathlib.Core.Path.{◌≡◌, refl}
use mathlib.Core.Bool.{Bool, true, false, cond}
use mathlib.Core.List.{List, [], ◌∷◌, ◌++◌}
use Prim.Native.Nat.{ℕ}
use lib.ListN.{get_or}
use borrow.Author.Tests.{eq-eqb, ne_eqb}
use Rattle.wal_types.specs.Settings.{within}
use Rattle.list_choose.specs.Chosen.{in_bounds, firsts_after, firsts}

module _ (pages : List ℕ) where
  pub firsts_nil : (q : ℕ) → firsts_after pages q [] ≡ []
  unfolding firsts_after
  firsts_nil q = refl

  pub firsts_skip : (q e : ℕ) (l : List ℕ) → get_or pages e 0 ≡ q → firsts_after pages q (e ∷ l) ≡ firsts_after pages q l
  unfolding firsts_after
  firsts_skip q e l p = rw (eq-eqb _ _ p)

  pub firsts_take : (q e : ℕ) (l : List ℕ) → (get_or pages e 0 ≡ q → ⊥) → firsts_after pages q (e ∷ l) ≡ e ∷ firsts_after pages (get_or pages e 0) l
  unfolding firsts_after
  firsts_take q e l p = rw (ne_eqb _ _ p)

  pub firsts_of_none : firsts pages [] ≡ []
  unfolding firsts
  firsts_of_none = refl

  pub firsts_of_first : (e : ℕ) (l : List ℕ) → firsts pages (e ∷ l) ≡ e ∷ firsts_after pages (get_or pages e 0) l
  unfolding firsts
  firsts_of_first e l = refl

-- Within the bounds, one entry at a time.
module _ (frames : List ℕ) (low high : ℕ) where
  pub bounds_next : (e : ℕ) (l : List ℕ) → in_bounds frames low high (e ∷ l) ≡ in_bounds frames low high (e ∷ []) ++ in_bounds frames low high l
  unfolding in_bounds
  bounds_next e l = go (within low high (get_or frames e 0)) (in_bounds frames low high l)
    where
      go : (t : Bool) (x : List ℕ) → cond t (e ∷ x) x ≡ cond t (e ∷ []) [] ++ x
      go true x = refl
      go false x = refl

  pub bounds_nil : in_bounds frames low high [] ≡ []
  unfolding in_bounds
  bounds_nil = refl
