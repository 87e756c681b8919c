-- What the searches answer by the run of cells that they pass over. Assumes nothing.
use mathlib.Core.Path.{◌≡◌, refl, sym, ap, ap₂, ◌∙◌}
use mathlib.Core.Bool.{Bool, true, false, cond}
use mathlib.Core.List.{List}
use Prim.Native.Nat.{ℕ, zero, suc, ◌+◌, ◌-◌, ◌%◌, ◌<◌, ◌≤◌, min}
use native.Mathlib.Decide.{dec_lt, ℕ_discrete}
use native.Mathlib.Omega.{arith}
use lib.Dec.{eqb, ltb}
use lib.ListN.{length, get_or, take, drop, length-take, length-drop}
use lib.Seq.{get_or-take}
use borrow.Author.Tests.{eqb-false, ltb-true, eq-eqb, ne_eqb}
use Rattle.std.specs.Prelude.{Option, Some, None}
use Rattle.index_hash.specs.Home.{home, next_cell}
use Rattle.index_hash.specs.Block.{empty_from, empty_cell, probe_from, probe, looked_from, looked}
use Rattle.index_hash.proofs.Empty.{by_test}
use Rattle.index_hash.proofs.Turns.{none_left, at_used, at_empty, probe_at_live, looked_none_left, looked_at_empty, looked_at_hidden, looked_at_live}
use Rattle.index_search.proofs.Runs.{one_at_least, cell_of_part}
use Rattle.index_search.specs.InnerRun.{All, Live, Used, page_named, Other, met_in, entry_named}

same_test : (t : Bool) (a x y : Option ℕ) (c : ℕ) → (x ≡ Some c → y ≡ Some c) → cond t a x ≡ Some c → cond t a y ≡ Some c
same_test true a x y c f e = e
same_test false a x y c f e = f e

module _ (h : List ℕ) where
  -- behind used cells the search for an empty one goes on
  pub pass_used : (from n m : ℕ) → from + n ≤ 8192 → n ≤ m → All (Used h) from (from + n) → empty_from (m - n) h ((from + n) % 8192) ≡ empty_from m h (from % 8192)
  unfolding next_cell
  pass_used from zero m b l used = ap₂ (λ (k c : ℕ). empty_from k h c) (omega arith) (omega arith)
  pass_used from (suc n) m b l used =
      let ih = pass_used from n m (omega arith) (omega arith) (λ c x y. used c x (omega arith)) in
      let here : (from + n) % 8192 ≡ from + n = omega arith in
      let on = at_used (m - n) h ((from + n) % 8192) (empty_from m h (from % 8192)) ih (m - suc n) (omega arith) (rw here (used (from + n) (omega arith) (omega arith))) in
      ap (λ (c : ℕ). empty_from (m - suc n) h c) (omega arith) ∙ on

  module _ (home : ℕ) (b : home < 8192) where
    -- the first empty cell, the used ones before it straight from the home on
    pub found_on : (cell : ℕ) → home ≤ cell → cell < 8192 → All (Used h) home cell → get_or h cell 0 ≡ 0 → Some cell ≡ empty_from 8192 h home
    found_on cell l u used z =
        let e : home + (cell - home) ≡ cell = omega arith in
        let at : (home + (cell - home)) % 8192 ≡ cell = omega arith in
        let start : home % 8192 ≡ home = omega arith in
        let s = pass_used home (cell - home) 8192 (omega arith) (omega arith) (rw e used) in
        at_empty (8192 - (cell - home)) h cell (empty_from 8192 h home) (rw (at, start) at s) (omega arith) z

    -- the search goes on at the block's first cell
    past_end : All (Used h) home 8192 → empty_from home h 0 ≡ empty_from 8192 h home
    past_end used =
        let e : home + (8192 - home) ≡ 8192 = omega arith in
        let start : home % 8192 ≡ home = omega arith in
        let n : 8192 - (8192 - home) ≡ home = omega arith in
        let at : (home + (8192 - home)) % 8192 ≡ 0 = omega arith in
        let s = pass_used home (8192 - home) 8192 (omega arith) (omega arith) (rw e used) in
        rw (n, at, start) at s

    -- the first empty cell, the used ones before it up to the block's end and from its first cell on
    pub found_round : (cell : ℕ) → cell < home → All (Used h) home 8192 → All (Used h) 0 cell → get_or h cell 0 ≡ 0 → Some cell ≡ empty_from 8192 h home
    found_round cell u used before z =
        let e : 0 + cell ≡ cell = omega arith in
        let at : (0 + cell) % 8192 ≡ cell = omega arith in
        let s = pass_used 0 cell home (omega arith) (omega arith) (rw e before) in
        at_empty (home - cell) h cell (empty_from 8192 h home) (rw at at s ∙ past_end used) (omega arith) z

    -- every cell is used
    pub found_none : All (Used h) home 8192 → All (Used h) 0 home → None ≡ empty_from 8192 h home
    found_none used before =
        let e : 0 + home ≡ home = omega arith in
        let n : home - home ≡ 0 = omega arith in
        let s = pass_used 0 home home (omega arith) (omega arith) (rw e before) in
        none_left (home - home) h ((0 + home) % 8192) (empty_from 8192 h home) (s ∙ past_end used) n

  -- from a page's home on
  pub of_page : (from page : ℕ) (x : Option ℕ) → from ≡ home page → x ≡ empty_from 8192 h from → x ≡ empty_cell h page
  unfolding empty_cell
  of_page from page x e f = rw e at f

  -- a cell found within fewer cells is the one found within more
  pub found_sooner : (m n : ℕ) (cell c : ℕ) → m ≤ n → empty_from m h cell ≡ Some c → empty_from n h cell ≡ Some c
  unfolding empty_from
  found_sooner zero n cell c l e = let z : ◌≡◌ {A = ℕ} 0 1 = cc in absurd (omega arith)
  found_sooner (suc m) zero cell c l e = absurd (omega arith)
  found_sooner (suc m) (suc n) cell c l e = same_test (eqb (get_or h cell 0) 0) (Some cell) _ _ c (found_sooner m n (next_cell cell) c (omega arith)) e

  -- so it is the page's cell
  pub found_near : (m : ℕ) (from page c : ℕ) → m ≤ 8192 → from ≡ home page → empty_from m h from ≡ Some c → empty_cell h page ≡ Some c
  unfolding empty_cell
  found_near m from page c l e f = found_sooner m 8192 (home page) c l (rw e at f)

-- the cell of the next turn
pub next_turn : (from turn : ℕ) → next_cell (from + turn) ≡ (from + (turn + 1)) % 8192
unfolding next_cell
next_turn from turn = omega arith

module _ (h pages : List ℕ) (page visible : ℕ) where
  -- the probe starts at the page's home, with nothing met
  pub probe_start : (from : ℕ) → from < 8192 → from ≡ home page → probe_from (8192 - 0) h pages page visible ((from + 0) % 8192) None ≡ probe h pages page visible
  unfolding probe
  probe_start from b e = ap₂ (λ (n c : ℕ). probe_from n h pages page visible c None) (omega arith) (omega arith)

  -- a cell of the block is its own remainder
  pub probe_here : (n cell : ℕ) (latest whole : Option ℕ) → cell < 8192 → probe_from n h pages page visible (cell % 8192) latest ≡ whole → probe_from n h pages page visible cell latest ≡ whole
  probe_here n cell latest whole b e = let here : cell % 8192 ≡ cell = omega arith in rw here at e

  -- behind live cells the probe goes on, with the last entry of the page that they name
  pub pass_live : (from n m : ℕ) (latest : Option ℕ) → from + n ≤ 8192 → n ≤ m → All (Live h visible) from (from + n) → probe_from (m - n) h pages page visible ((from + n) % 8192) (met_in h pages page from n latest) ≡ probe_from m h pages page visible (from % 8192) latest
  unfolding next_cell met_in
  pass_live from zero m latest b l live = ap₂ (λ (k c : ℕ). probe_from k h pages page visible c latest) (omega arith) (omega arith)
  pass_live from (suc n) m latest b l live =
      let ih = pass_live from n m latest (omega arith) (omega arith) (λ c x y. live c x (omega arith)) in
      let here : (from + n) % 8192 ≡ from + n = omega arith in
      let seen = live (from + n) (omega arith) (omega arith) in
      let s = rw here at ih in
      let on = probe_at_live (m - n) h pages page visible (from + n) (met_in h pages page from n latest) (probe_from m h pages page visible (from % 8192) latest) s (λ z. absurd (omega (arith, seen.0))) (m - suc n) (omega arith) (omega (arith, seen.0, seen.1)) in
      ap (λ (c : ℕ). probe_from (m - suc n) h pages page visible c (met_in h pages page from (suc n) latest)) (omega arith) ∙ on

  -- with no cell left it is over
  probe_over : (m cell : ℕ) (latest : Option ℕ) → m ≡ 0 → probe_from m h pages page visible cell latest ≡ latest
  unfolding probe_from
  probe_over m cell latest e = rw e

  -- a cell that is not live ends it
  pub probe_stops : (m cell : ℕ) (latest : Option ℕ) → (Live h visible cell → ⊥) → probe_from m h pages page visible cell latest ≡ latest
  unfolding probe_from
  probe_stops zero cell latest dead = refl
  probe_stops (suc m) cell latest dead =
      by_test (λ (x : Option ℕ). x ≡ latest) (eqb (get_or h cell 0) 0) (λ t. refl)
      (λ t. by_test (λ (x : Option ℕ). x ≡ latest) (ltb (get_or h cell 0 - 1) visible)
      (λ s. let z = one_at_least (get_or h cell 0) (eqb-false _ _ t) in let q : get_or h cell 0 - 1 < visible = ltb-true _ _ s in absurd (dead (z, omega arith)))
      (λ s. refl))

  -- the whole probe, by a run that ends before the block does
  pub probe_straight : (from end : ℕ) → from ≡ home page → from ≤ end → end < 8192 → All (Live h visible) from end → (Live h visible end → ⊥) → met_in h pages page from (end - from) None ≡ probe h pages page visible
  unfolding probe
  probe_straight from end e l b live dead =
      let to : from + (end - from) ≡ end = omega arith in
      let at : (from + (end - from)) % 8192 ≡ end = omega arith in
      let start : from % 8192 ≡ home page = omega arith in
      let s = pass_live from (end - from) 8192 None (omega arith) (omega arith) (rw to live) in
      sym (probe_stops (8192 - (end - from)) end (met_in h pages page from (end - from) None) dead) ∙ rw (at, start) at s

  -- and by one that goes on at the block's first cell
  pub probe_round : (from end : ℕ) → from ≡ home page → from < 8192 → All (Live h visible) from 8192 → end ≤ from → All (Live h visible) 0 end → (end < from → Live h visible end → ⊥) → met_in h pages page 0 end (met_in h pages page from (8192 - from) None) ≡ probe h pages page visible
  unfolding probe
  probe_round from end e b live l more dead = go (dec_lt end from) ∙ second ∙ first
    where
      met : Option ℕ
      met = met_in h pages page from (8192 - from) None

      first : probe_from from h pages page visible 0 met ≡ probe_from 8192 h pages page visible (home page) None
      first =
          let to : from + (8192 - from) ≡ 8192 = omega arith in
          let at : (from + (8192 - from)) % 8192 ≡ 0 = omega arith in
          let left : 8192 - (8192 - from) ≡ from = omega arith in
          let start : from % 8192 ≡ home page = omega arith in
          rw (left, at, start) at (pass_live from (8192 - from) 8192 None (omega arith) (omega arith) (rw to live))

      second : probe_from (from - end) h pages page visible end (met_in h pages page 0 end met) ≡ probe_from from h pages page visible 0 met
      second =
          let to : 0 + end ≡ end = omega arith in
          let at : (0 + end) % 8192 ≡ end = omega arith in
          let start : 0 % 8192 ≡ 0 = omega arith in
          rw (at, start) at (pass_live 0 end from met (omega arith) (omega arith) (rw to more))

      go : Dec (end < from) → met_in h pages page 0 end met ≡ probe_from (from - end) h pages page visible end (met_in h pages page 0 end met)
      go (yes s) = sym (probe_stops (from - end) end (met_in h pages page 0 end met) (dead s))
      go (no s) = sym (probe_over (from - end) end (met_in h pages page 0 end met) (omega arith))

-- HOW MANY CELLS: the count of the probe by the same runs
module _ (h : List ℕ) (visible : ℕ) where
  -- one cell of the block, with c cells counted and n cells left
  module _ (n c cell whole : ℕ) (b : cell < 8192) (l : 0 < n) (so_far : c + looked_from n h visible (cell % 8192) ≡ whole) where
    here : c + looked_from n h visible cell ≡ whole
    here = let e : cell % 8192 ≡ cell = omega arith in rw e at so_far

    -- an empty one, and one that names an entry beyond the visible ones, counts and ends it
    pub count_empty : get_or h cell 0 ≡ 0 → c + 1 ≡ whole
    count_empty z = omega (arith, here, looked_at_empty n h visible cell l z)

    pub count_hidden : (get_or h cell 0 ≡ 0 → ⊥) → visible ≤ get_or h cell 0 - 1 → c + 1 ≡ whole
    count_hidden used v = omega (arith, here, looked_at_hidden n h visible cell used l v)

    -- a live one counts, and it goes on
    pub count_live : (get_or h cell 0 ≡ 0 → ⊥) → get_or h cell 0 - 1 < visible → (m : ℕ) → n ≡ suc m → c + 1 + looked_from m h visible (next_cell cell) ≡ whole
    count_live used seen m more = omega (arith, here, looked_at_live n h visible cell used m more seen)

  -- behind live cells it goes on, and they count
  looked_passed : (from n m : ℕ) → from + n ≤ 8192 → n ≤ m → All (Live h visible) from (from + n) → n + looked_from (m - n) h visible ((from + n) % 8192) ≡ looked_from m h visible (from % 8192)
  unfolding next_cell
  looked_passed from zero m b l live =
      let s : looked_from (m - 0) h visible ((from + 0) % 8192) ≡ looked_from m h visible (from % 8192) = ap₂ (λ (k c : ℕ). looked_from k h visible c) (omega arith) (omega arith) in
      omega arith
  looked_passed from (suc n) m b l live =
      let ih = looked_passed from n m (omega arith) (omega arith) (λ c x y. live c x (omega arith)) in
      let here : (from + n) % 8192 ≡ from + n = omega arith in
      let seen = live (from + n) (omega arith) (omega arith) in
      let on = looked_at_live (m - n) h visible (from + n) (λ z. absurd (omega (arith, seen.0))) (m - suc n) (omega arith) (omega (arith, seen.0, seen.1)) in
      let next : (from + n + 1) % 8192 ≡ (from + suc n) % 8192 = omega arith in
      omega (arith, rw here at ih, rw next at on)

  -- a cell that is not live counts one
  looked_stops : (m cell : ℕ) → 0 < m → (Live h visible cell → ⊥) → looked_from m h visible cell ≡ 1
  looked_stops m cell l dead = go (ℕ_discrete (get_or h cell 0) 0)
    where
      go : Dec (get_or h cell 0 ≡ 0) → looked_from m h visible cell ≡ 1
      go (yes z) = looked_at_empty m h visible cell l z
      go (no used) = hidden used (dec_lt (get_or h cell 0 - 1) visible)
        where
          hidden : (get_or h cell 0 ≡ 0 → ⊥) → Dec (get_or h cell 0 - 1 < visible) → looked_from m h visible cell ≡ 1
          hidden used (yes s) = absurd (dead (one_at_least _ used, omega arith))
          hidden used (no s) = looked_at_hidden m h visible cell used l (omega arith)

-- of a page
module _ (h : List ℕ) (page visible : ℕ) where
  -- it starts at the page's home, with nothing counted
  pub looked_start : (from : ℕ) → from < 8192 → from ≡ home page → 0 + looked_from (8192 - 0) h visible ((from + 0) % 8192) ≡ looked h page visible
  unfolding looked
  looked_start from b e =
      let s : looked_from (8192 - 0) h visible ((from + 0) % 8192) ≡ looked_from 8192 h visible (home page) = ap₂ (λ (k c : ℕ). looked_from k h visible c) (omega arith) (omega arith) in
      omega arith

  -- the whole count, by a run that ends before the block does
  pub looked_straight : (from end : ℕ) → from ≡ home page → from ≤ end → end < 8192 → All (Live h visible) from end → (Live h visible end → ⊥) → end - from + 1 ≡ looked h page visible
  unfolding looked
  looked_straight from end e l b live dead =
      let to : from + (end - from) ≡ end = omega arith in
      let at : (from + (end - from)) % 8192 ≡ end = omega arith in
      let start : from % 8192 ≡ home page = omega arith in
      let s = looked_passed h visible from (end - from) 8192 (omega arith) (omega arith) (rw to live) in
      let one = looked_stops h visible (8192 - (end - from)) end (omega arith) dead in
      omega (arith, one, rw (at, start) at s)

  -- and by one that goes on at the block's first cell
  pub looked_round : (from end : ℕ) → from ≡ home page → from < 8192 → All (Live h visible) from 8192 → end ≤ from → All (Live h visible) 0 end → (end < from → Live h visible end → ⊥) → min (8192 - from + end + 1) 8192 ≡ looked h page visible
  unfolding looked
  looked_round from end e b live l more dead = go (dec_lt end from)
    where
      first : 8192 - from + looked_from from h visible 0 ≡ looked_from 8192 h visible (home page)
      first =
          let to : from + (8192 - from) ≡ 8192 = omega arith in
          let at : (from + (8192 - from)) % 8192 ≡ 0 = omega arith in
          let left : 8192 - (8192 - from) ≡ from = omega arith in
          let start : from % 8192 ≡ home page = omega arith in
          rw (left, at, start) at (looked_passed h visible from (8192 - from) 8192 (omega arith) (omega arith) (rw to live))

      second : end + looked_from (from - end) h visible end ≡ looked_from from h visible 0
      second =
          let to : 0 + end ≡ end = omega arith in
          let at : (0 + end) % 8192 ≡ end = omega arith in
          let start : 0 % 8192 ≡ 0 = omega arith in
          rw (at, start) at (looked_passed h visible 0 end from (omega arith) (omega arith) (rw to more))

      go : Dec (end < from) → min (8192 - from + end + 1) 8192 ≡ looked_from 8192 h visible (home page)
      go (yes s) = omega (arith, first, second, looked_stops h visible (from - end) end (omega arith) (dead s))
      go (no s) = omega (arith, first, second, looked_none_left (from - end) h visible end (omega arith))

module _ (h pages : List ℕ) (page : ℕ) where
  -- cells that name other pages' entries tell nothing
  pub met_skip : (from n k : ℕ) (before : Option ℕ) → All (Other h pages page) (from + n) (from + n + k) → met_in h pages page from (n + k) before ≡ met_in h pages page from n before
  unfolding met_in
  met_skip from n zero before others = let e : n + zero ≡ n = omega arith in ap (λ (x : ℕ). met_in h pages page from x before) e
  met_skip from n (suc k) before others =
      let e : n + suc k ≡ suc (n + k) = omega arith in
      let at : from + n + k ≡ from + (n + k) = omega arith in
      let no = others (from + n + k) (omega arith) (omega arith) in
      rw e (rw (ne_eqb _ _ (rw at at no)) (met_skip from n k before (λ c x y. others c x (omega arith))))

  -- of a part of the hash
  met_same : (part : List ℕ) (from n : ℕ) (before : Option ℕ) → ((c : ℕ) → c < n → get_or part c 0 ≡ get_or h (from + c) 0) → met_in part pages page 0 n before ≡ met_in h pages page from n before
  unfolding met_in
  met_same part from zero before same = refl
  met_same part from (suc n) before same =
      let at : 0 + n ≡ n = omega arith in
      rw (at, same n (omega arith), met_same part from n before (λ c l. same c (omega arith)))

  pub met_part : (from n : ℕ) (before : Option ℕ) → from + n ≤ length h → met_in (take n (drop from h)) pages page 0 (length (take n (drop from h))) before ≡ met_in h pages page from n before
  met_part from n before l =
      let k : length (take n (drop from h)) ≡ n = simp (length-take, length-drop) (omega arith) in
      rw k (met_same (take n (drop from h)) from n before (cell_of_part h from n))

  pub met_front : (n : ℕ) (before : Option ℕ) → n ≤ length h → met_in (take n h) pages page 0 (length (take n h)) before ≡ met_in h pages page 0 n before
  met_front n before l =
      let k : length (take n h) ≡ n = simp length-take (omega arith) in
      rw k (met_same (take n h) 0 n before (λ c b. let e : 0 + c ≡ c = omega arith in rw e (get_or-take {A = ℕ} n h c 0 b)))

  module _ (from : ℕ) (before : Option ℕ) where
    -- a run that ends before cells that tell nothing tells the same
    pub met_passed : (rest end : ℕ) → from ≤ rest → rest ≤ end → All (Other h pages page) rest end → met_in h pages page from (rest - from) before ≡ met_in h pages page from (end - from) before
    met_passed rest end l u others =
        let at : from + (rest - from) ≡ rest = omega arith in
        let to : rest + (end - rest) ≡ end = omega arith in
        let n : rest - from + (end - rest) ≡ end - from = omega arith in
        sym (rw n at (met_skip from (rest - from) (end - rest) before (rw (at, to) others)))

    -- the page's entry that the last cell of a run names
    pub met_last : (rest : ℕ) → from < rest → page_named h pages (rest - 1) ≡ page → Some (get_or h (rest - 1) 0 - 1) ≡ met_in h pages page from (rest - from) before
    unfolding met_in
    met_last rest l e =
        let n : rest - from ≡ suc (rest - 1 - from) = omega arith in
        let at : from + (rest - 1 - from) ≡ rest - 1 = omega arith in
        rw n (rw (at, eq-eqb _ _ e))

    -- no cells tell what was met before
    pub met_nothing : (n : ℕ) → n ≡ 0 → before ≡ met_in h pages page from n before
    unfolding met_in
    met_nothing n e = rw e

  -- the first two of a run from the first cell on
  module _ (before : Option ℕ) where
    pub front_passed : (rest end : ℕ) → rest ≤ end → All (Other h pages page) rest end → met_in h pages page 0 rest before ≡ met_in h pages page 0 end before
    front_passed rest end u others =
        let at : rest - 0 ≡ rest = omega arith in
        let to : end - 0 ≡ end = omega arith in
        rw (at, to) at (met_passed 0 before rest end (omega arith) u others)

    pub front_last : (n : ℕ) → 0 < n → page_named h pages (n - 1) ≡ page → Some (get_or h (n - 1) 0 - 1) ≡ met_in h pages page 0 n before
    front_last n l e = let at : n - 0 ≡ n = omega arith in rw at at (met_last 0 before n l e)

-- live cells are used
pub live_used : (h : List ℕ) (visible from to : ℕ) → All (Live h visible) from to → All (Used h) from to
live_used h visible from to live c x y z = let l = live c x y in absurd (omega (arith, l.0))

-- a cell is empty if it names no entry that a cell can name
pub dead_empty : (h : List ℕ) (c : ℕ) → get_or h c 0 ≤ 65535 → (Live h 65535 c → ⊥) → get_or h c 0 ≡ 0
dead_empty h c b dead = go (get_or h c 0) b dead
  where
    go : (x : ℕ) → x ≤ 65535 → ((1 ≤ x) × (x ≤ 65535) → ⊥) → x ≡ 0
    go zero b dead = refl
    go (suc x) b dead = absurd (dead (omega arith, b))

-- a used cell's number names an entry
pub named_used : (x : ℕ) → (x ≡ 0 → ⊥) → entry_named x ≡ Some (x - 1)
named_used zero used = absurd (used refl)
named_used (suc i) used = let e : suc i - 1 ≡ i = omega arith in rw e
