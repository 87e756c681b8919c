-- What a probe answers, on any contents. Assumes nothing.
use mathlib.Core.Path.{◌≡◌, refl, subst}
use mathlib.Core.Bool.{Bool, true, false, cond}
use mathlib.Core.List.{List}
use Prim.Native.Nat.{ℕ, zero, suc, ◌-◌, ◌<◌}
use lib.Dec.{eqb, ltb}
use lib.ListN.{length, get_or, take}
use lib.Seq.{get_or-take}
use borrow.Author.Tests.{eqb-true, ltb-true}
use Rattle.std.specs.Prelude.{Option, Some, None}
use Rattle.index_hash.specs.Home.{home, next_cell}
use Rattle.index_hash.specs.Block.{probe_from, probe}
use Rattle.index_hash.proofs.Empty.{by_test}

-- a probe reads the visible entries alone
probe_same : (h pages pages' : List ℕ) (page visible : ℕ) → ((i : ℕ) → i < visible → get_or pages i 0 ≡ get_or pages' i 0) → (m cell : ℕ) (latest : Option ℕ)
    → probe_from m h pages page visible cell latest ≡ probe_from m h pages' page visible cell latest
unfolding probe_from
probe_same h pages pages' page visible same zero cell latest = refl
probe_same h pages pages' page visible same (suc m) cell latest = go (probe_same h pages pages' page visible same m (next_cell cell)) (ltb (get_or h cell 0 - 1) visible) refl
  where
    go : ((l : Option ℕ) → probe_from m h pages page visible (next_cell cell) l ≡ probe_from m h pages' page visible (next_cell cell) l) → (t : Bool) → ltb (get_or h cell 0 - 1) visible ≡ t → probe_from (suc m) h pages page visible cell latest ≡ probe_from (suc m) h pages' page visible cell latest
    go ih true s = rw (s, same (get_or h cell 0 - 1) (ltb-true _ _ s), ih (cond (eqb (get_or pages' (get_or h cell 0 - 1) 0) page) (Some (get_or h cell 0 - 1)) latest))
    go ih false s = rw s

pub probe_front : (h pages : List ℕ) (page v n : ℕ) → length (take v pages) ≡ n → n ≡ v → probe h (take v pages) page n ≡ probe h pages page v
unfolding probe
probe_front h pages page v n l e = rw e (probe_same h (take v pages) pages page v (λ i b. get_or-take {A = ℕ} v pages i 0 b) 8192 (home page) None)

module _ (h pages : List ℕ) (page visible : ℕ) where
  -- an answer names a visible entry of the page
  abbrev Fine : Option ℕ → Type 0
  Fine (Some i) = (i < visible) × (get_or pages i 0 ≡ page)
  Fine None = Unit

  fine_from : (m cell : ℕ) (latest : Option ℕ) → Fine latest → Fine (probe_from m h pages page visible cell latest)
  unfolding probe_from
  fine_from zero cell latest f = f
  fine_from (suc m) cell latest f =
      by_test Fine (eqb (get_or h cell 0) 0) (λ t. f)
      (λ t. by_test Fine (ltb (get_or h cell 0 - 1) visible)
      (λ s. fine_from m (next_cell cell) _ (by_test Fine (eqb (get_or pages (get_or h cell 0 - 1) 0) page) (λ e. (ltb-true _ _ s, eqb-true _ _ e)) (λ e. f)))
      (λ s. f))

  fine : Fine (probe h pages page visible)
  unfolding probe
  fine = fine_from 8192 (home page) None tt

  -- the answer is below the visible length
  pub probe_below : (i : ℕ) → probe h pages page visible ≡ Some i → i < visible
  probe_below i e = (subst Fine e fine).0

  -- and is an entry of the page
  pub probe_page : (i : ℕ) → probe h pages page visible ≡ Some i → get_or pages i 0 ≡ page
  probe_page i e = (subst Fine e fine).1
