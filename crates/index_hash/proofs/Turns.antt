-- One turn of the search for an empty cell, of the probe and of its count. Assumes nothing.
use mathlib.Core.Path.{◌≡◌, refl, sym, ◌∙◌}
use mathlib.Core.Bool.{cond}
use mathlib.Core.List.{List, map}
use Prim.Native.Nat.{ℕ, zero, suc, ◌+◌, ◌-◌, ◌%◌, ◌<◌, ◌≤◌}
use native.Mathlib.Omega.{arith}
use lib.Dec.{eqb}
use lib.ListN.{get_or}
use borrow.Author.Tests.{eq-eqb, ne_eqb, lt-ltb, le-ltb}
use Rattle.std.specs.Prelude.{Option, Some, None, option_map, find}
use Rattle.std.specs.List.{range_with_len}
use Rattle.std.proofs.lemmas.Iterator.Adapters.{option_map_id}
use Rattle.index_hash.specs.Home.{next_cell}
use Rattle.index_hash.specs.Block.{empty_from, probe_from, looked_from}

-- the search for an empty cell, with n cells left
module _ (n : ℕ) (h : List ℕ) (cell : ℕ) (whole : Option ℕ) (so_far : empty_from n h cell ≡ whole) where
  -- no cell is left
  pub none_left : n ≡ 0 → None ≡ whole
  unfolding empty_from
  none_left s = rw s at so_far

  -- the cell is used: the search goes on
  pub at_used : (m : ℕ) → n ≡ suc m → (get_or h cell 0 ≡ 0 → ⊥) → empty_from m h (next_cell cell) ≡ whole
  unfolding empty_from
  at_used m more used = simp (more, ne_eqb _ _ used) at so_far

  -- it is empty: it is found
  pub at_empty : 0 < n → get_or h cell 0 ≡ 0 → Some cell ≡ whole
  unfolding empty_from
  at_empty l z = let more : n ≡ suc (n - 1) = omega arith in simp (more, eq-eqb _ _ z) at so_far

-- the search as a chain over the steps from a cell on
module _ (h : List ℕ) (from : ℕ) where
  at_steps : (n a : ℕ) → find (λ (cell : ℕ). eqb (get_or h (cell % 8192) 0) 0) (map (λ (step : ℕ). (from + step % 8192) % 8192) (range_with_len a n)) ≡ empty_from n h ((from + a % 8192) % 8192)
  unfolding empty_from next_cell
  at_steps zero a = refl
  at_steps (suc n) a =
      let here : (from + a % 8192) % 8192 % 8192 ≡ (from + a % 8192) % 8192 = omega arith in
      let next : ((from + a % 8192) % 8192 + 1) % 8192 ≡ (from + (a + 1) % 8192) % 8192 = omega arith in
      rw (here, next, at_steps n (a + 1))

  pub found_by_find : (n : ℕ) → from < 8192 → (r : Option ℕ) → option_map (λ x. x) r ≡ find (λ (cell : ℕ). eqb (get_or h (cell % 8192) 0) 0) (map (λ (step : ℕ). (from + step % 8192) % 8192) (range_with_len 0 n)) → r ≡ empty_from n h from
  found_by_find n b r e =
      let start : (from + 0 % 8192) % 8192 ≡ from = omega arith in
      sym (option_map_id r) ∙ e ∙ rw start at (at_steps n 0)

-- the probe, with n cells left
module _ (n : ℕ) (h pages : List ℕ) (page visible cell : ℕ) (latest whole : Option ℕ) (so_far : probe_from n h pages page visible cell latest ≡ whole) where
  -- an empty cell ends it
  pub probe_at_empty : 0 < n → get_or h cell 0 ≡ 0 → latest ≡ whole
  unfolding probe_from
  probe_at_empty l z = let more : n ≡ suc (n - 1) = omega arith in simp (more, eq-eqb _ _ z) at so_far

  module _ (used : get_or h cell 0 ≡ 0 → ⊥) where
    -- so does one that names an entry beyond the visible ones
    pub probe_at_hidden : 0 < n → visible ≤ get_or h cell 0 - 1 → latest ≡ whole
    unfolding probe_from
    probe_at_hidden l v = let more : n ≡ suc (n - 1) = omega arith in simp (more, ne_eqb _ _ used, le-ltb _ _ v) at so_far

    module _ (m : ℕ) (more : n ≡ suc m) (seen : get_or h cell 0 - 1 < visible) where
      -- a visible entry: it goes on, with that entry if it is the page's
      pub probe_at_live : probe_from m h pages page visible (next_cell cell) (cond (eqb (get_or pages (get_or h cell 0 - 1) 0) page) (Some (get_or h cell 0 - 1)) latest) ≡ whole
      unfolding probe_from
      probe_at_live = simp (more, ne_eqb _ _ used, lt-ltb _ _ seen) at so_far

      -- an entry of another page: it goes on
      pub probe_at_other : (get_or pages (get_or h cell 0 - 1) 0 ≡ page → ⊥) → probe_from m h pages page visible (next_cell cell) latest ≡ whole
      unfolding probe_from
      probe_at_other e = simp (more, ne_eqb _ _ used, lt-ltb _ _ seen, ne_eqb _ _ e) at so_far

      -- an entry of the page: it goes on with that
      pub probe_at_page : get_or pages (get_or h cell 0 - 1) 0 ≡ page → probe_from m h pages page visible (next_cell cell) (Some (get_or h cell 0 - 1)) ≡ whole
      unfolding probe_from
      probe_at_page e = simp (more, ne_eqb _ _ used, lt-ltb _ _ seen, eq-eqb _ _ e) at so_far

-- the count of the cells looked at, with n cells left
module _ (n : ℕ) (h : List ℕ) (visible cell : ℕ) where
  -- no cell is left
  pub looked_none_left : n ≡ 0 → looked_from n h visible cell ≡ 0
  unfolding looked_from
  looked_none_left s = rw s

  -- an empty cell counts and ends it
  pub looked_at_empty : 0 < n → get_or h cell 0 ≡ 0 → looked_from n h visible cell ≡ 1
  unfolding looked_from
  looked_at_empty l z = let more : n ≡ suc (n - 1) = omega arith in rw (more, eq-eqb _ _ z)

  module _ (used : get_or h cell 0 ≡ 0 → ⊥) where
    -- so does one that names an entry beyond the visible ones
    pub looked_at_hidden : 0 < n → visible ≤ get_or h cell 0 - 1 → looked_from n h visible cell ≡ 1
    unfolding looked_from
    looked_at_hidden l v = let more : n ≡ suc (n - 1) = omega arith in rw (more, ne_eqb _ _ used, le-ltb _ _ v)

    -- a visible entry counts, and it goes on
    pub looked_at_live : (m : ℕ) → n ≡ suc m → get_or h cell 0 - 1 < visible → looked_from n h visible cell ≡ 1 + looked_from m h visible (next_cell cell)
    unfolding looked_from
    looked_at_live m more seen = rw (more, ne_eqb _ _ used, lt-ltb _ _ seen)
