-- The lookup law: a probe of a built block answers the page's latest visible entry. Assumes nothing.
use mathlib.Core.Path.{◌≡◌, refl, sym, ap, ◌∙◌, subst}
use mathlib.Core.Bool.{cond}
use mathlib.Core.List.{List}
use mathlib.Core.Logic.{◌⊎◌, inl, inr}
use Prim.Native.Nat.{ℕ, zero, suc, ◌+◌, ◌-◌, ◌<◌, ◌≤◌}
use native.Mathlib.Decide.{ℕ_discrete}
use native.Mathlib.Nat.{eq-or-lt_of_le}
use native.Mathlib.Omega.{arith}
use lib.Dec.{eqb, ltb}
use lib.ListN.{length, get_or, set}
use lib.Seq.{get_or-set_same, get_or-set_other}
use borrow.Author.Tests.{eqb-false, eq-eqb, ne_eqb, lt-ltb, le-ltb}
use Rattle.std.specs.Prelude.{Option, Some, None}
use Rattle.index_hash.specs.Home.{home, cell_at}
use Rattle.index_hash.specs.Block.{cleared, built, probe_from, probe}
use Rattle.index_hash.specs.InnerLatest.{latest_below}
use Rattle.index_hash.proofs.Home.{cell_at_home, cell_at_next, cell_at_once}
use Rattle.index_hash.proofs.Latest.{latest_here, latest_other}
use Rattle.index_hash.proofs.Empty.{by_test, First, on_insert, set_cell}
use Rattle.index_hash.proofs.Built.{cleared_empty, first_fits, built_cell_le}
use Rattle.index_hash.proofs.Used.{not_all_used}

-- a cell's value names an entry of the page
abbrev pub NamesPage : List ℕ → ℕ → ℕ → Type 0
NamesPage pages page v = (0 < v) × (get_or pages (v - 1) 0 ≡ page)

-- no entry of the page lies behind an empty cell on the way from its home
abbrev pub NothingBehind : List ℕ → List ℕ → ℕ → Type 0
NothingBehind h pages page = (j k : ℕ) → j < k → k < 8192 → get_or h (cell_at page j) 0 ≡ 0 → NamesPage pages page (get_or h (cell_at page k) 0) → ⊥

-- an insertion keeps that: the cell that names a new entry of the page is the first empty one
behind_set : (h pages : List ℕ) (n page c : ℕ) → c < length h → First h (get_or pages n 0) c → NothingBehind h pages page → NothingBehind (set h c (n + 1)) pages page
behind_set h pages n page c b w before j k l m =
    set_cell (λ (v : ℕ). v ≡ 0 → NamesPage pages page (get_or (set h c (n + 1)) (cell_at page k) 0) → ⊥) h c (n + 1) (cell_at page j) b
    (λ e z. absurd (omega arith))
    (λ e z. set_cell (λ (v : ℕ). NamesPage pages page v → ⊥) h c (n + 1) (cell_at page k) b (λ at_c p. new at_c z p.1) (λ o. before j k l m z))
  where
    new : cell_at page k ≡ c → get_or h (cell_at page j) 0 ≡ 0 → get_or pages (n + 1 - 1) 0 ≡ page → ⊥
    new at_c z e =
        let i : n + 1 - 1 ≡ n = omega arith in
        let f = subst (λ (p : ℕ). First h p c) (rw i at e) w in
        let s = cell_at_once page f.steps k f.within m (f.at ∙ sym at_c) in
        f.before j (omega arith) z

-- so it holds of every built block
pub built_behind : (pages : List ℕ) (n page : ℕ) → NothingBehind (built pages n) pages page
unfolding built
built_behind pages zero page = λ j k l m z p. let e = cleared_empty (cell_at page k) in let q = p.0 in omega arith
built_behind pages (suc n) page =
    on_insert (λ (h : List ℕ). NothingBehind h pages page) (built pages n) n (get_or pages n 0)
    (λ c w. behind_set (built pages n) pages n page c (first_fits pages n _ c w) w (built_behind pages n page))
    (λ full. built_behind pages n page)

-- a probe that meets no entry of the page any more keeps what it has
nothing_more : (h pages : List ℕ) (page visible m j : ℕ) (latest : Option ℕ) → j + m ≡ 8192 → ((k : ℕ) → j ≤ k → k < 8192 → NamesPage pages page (get_or h (cell_at page k) 0) → ⊥) → probe_from m h pages page visible (cell_at page j) latest ≡ latest
unfolding probe_from
nothing_more h pages page visible zero j latest e none = refl
nothing_more h pages page visible (suc m) j latest e none =
    by_test (λ (x : Option ℕ). x ≡ latest) (eqb (get_or h (cell_at page j) 0) 0) (λ t. refl)
    (λ t. by_test (λ (x : Option ℕ). x ≡ latest) (ltb (get_or h (cell_at page j) 0 - 1) visible)
    (λ s.
    let u = eqb-false (get_or h (cell_at page j) 0) 0 t in
    rw (cell_at_next page j, ne_eqb (get_or pages (get_or h (cell_at page j) 0 - 1) 0) page (λ p. none j (omega arith) (omega arith) (omega arith, p)))
    (nothing_more h pages page visible m (j + 1) latest (omega arith) (λ k l. none k (omega arith))))
    (λ s. refl))

-- an entry that is not visible, named in an empty cell, changes no answer
hidden_set : (h pages : List ℕ) (page visible c v : ℕ) → c < length h → get_or h c 0 ≡ 0 → visible < v → (m cell : ℕ) (latest : Option ℕ) → probe_from m (set h c v) pages page visible cell latest ≡ probe_from m h pages page visible cell latest
unfolding probe_from
hidden_set h pages page visible c v b z l zero cell latest = refl
hidden_set h pages page visible c v b z l (suc m) cell latest = go (hidden_set h pages page visible c v b z l m) (ℕ_discrete cell c)
  where
    go : ((cell : ℕ) (latest : Option ℕ) → probe_from m (set h c v) pages page visible cell latest ≡ probe_from m h pages page visible cell latest) → Dec (cell ≡ c) → probe_from (suc m) (set h c v) pages page visible cell latest ≡ probe_from (suc m) h pages page visible cell latest
    go ih (yes e) = rw (e, get_or-set_same h c v 0 b, z, ne_eqb v 0 (λ q. absurd (omega arith)), le-ltb (v - 1) visible (omega arith))
    go ih (no e) = simp (get_or-set_other h c cell v 0 e, ih)

-- one visible entry more, named in the empty cell c
module _ (h pages : List ℕ) (page n c : ℕ) (fits : c < length h) (empty : get_or h c 0 ≡ 0) (small : (k : ℕ) → get_or h k 0 ≤ n) (behind : NothingBehind h pages page) where
  abbrev h' : List ℕ
  h' = set h c (n + 1)

  -- what the probe from step j on does at c: it goes on, and meets the page no more
  at_c : (m j : ℕ) (latest : Option ℕ) → j + suc m ≡ 8192 → cell_at page j ≡ c → probe_from (suc m) h' pages page (suc n) (cell_at page j) latest ≡ cond (eqb (get_or pages n 0) page) (Some n) latest
  unfolding probe_from
  at_c m j latest s e =
      let named : get_or h' (cell_at page j) 0 ≡ n + 1 = ap (λ (k : ℕ). get_or h' k 0) e ∙ get_or-set_same h c (n + 1) 0 fits in
      let place : n + 1 - 1 ≡ n = omega arith in
      rw (named, ne_eqb (n + 1) 0 (λ q. absurd (omega arith)), place, lt-ltb n (suc n) (omega arith), cell_at_next page j)
      (nothing_more h' pages page (suc n) m (j + 1) (cond (eqb (get_or pages n 0) page) (Some n) latest) (omega arith) later)
    where
      later : (k : ℕ) → j + 1 ≤ k → k < 8192 → NamesPage pages page (get_or h' (cell_at page k) 0) → ⊥
      later k l m =
          set_cell (λ (v : ℕ). NamesPage pages page v → ⊥) h c (n + 1) (cell_at page k) fits
          (λ q p. let z = cell_at_once page k j m (omega arith) (q ∙ sym e) in absurd (omega arith))
          (λ q. behind j k (omega arith) m (ap (λ (i : ℕ). get_or h i 0) e ∙ empty))

  -- what it does at another used cell: it goes on, as before
  at_other : (m j : ℕ) (latest : Option ℕ) → (cell_at page j ≡ c → ⊥) → (get_or h (cell_at page j) 0 ≡ 0 → ⊥) → probe_from (suc m) h' pages page (suc n) (cell_at page j) latest ≡ probe_from m h' pages page (suc n) (cell_at page (j + 1)) (cond (eqb (get_or pages (get_or h (cell_at page j) 0 - 1) 0) page) (Some (get_or h (cell_at page j) 0 - 1)) latest)
  unfolding probe_from
  at_other m j latest e u =
      let b = small (cell_at page j) in
      rw (get_or-set_other h c (cell_at page j) (n + 1) 0 e, ne_eqb (get_or h (cell_at page j) 0) 0 u, lt-ltb (get_or h (cell_at page j) 0 - 1) (suc n) (omega arith), cell_at_next page j)

  -- an entry of another page changes no answer
  other_page : (get_or pages n 0 ≡ page → ⊥) → (m j : ℕ) (latest : Option ℕ) → j + m ≡ 8192 → probe_from m h' pages page (suc n) (cell_at page j) latest ≡ probe_from m h pages page n (cell_at page j) latest
  unfolding probe_from
  other_page o zero j latest s = refl
  other_page o (suc m) j latest s = go (λ l. other_page o m (j + 1) l (omega arith)) (ℕ_discrete (cell_at page j) c) (ℕ_discrete (get_or h (cell_at page j) 0) 0)
    where
      go : ((l : Option ℕ) → probe_from m h' pages page (suc n) (cell_at page (j + 1)) l ≡ probe_from m h pages page n (cell_at page (j + 1)) l) → Dec (cell_at page j ≡ c) → Dec (get_or h (cell_at page j) 0 ≡ 0) → probe_from (suc m) h' pages page (suc n) (cell_at page j) latest ≡ probe_from (suc m) h pages page n (cell_at page j) latest
      go ih (yes e) d = at_c m j latest s e ∙ rw (ap (λ (i : ℕ). get_or h i 0) e ∙ empty, ne_eqb (get_or pages n 0) page o)
      go ih (no e) (yes z) = rw (get_or-set_other h c (cell_at page j) (n + 1) 0 e, z)
      go ih (no e) (no u) =
          let b = small (cell_at page j) in
          at_other m j latest e u ∙ ih _ ∙ rw (ne_eqb (get_or h (cell_at page j) 0) 0 u, lt-ltb (get_or h (cell_at page j) 0 - 1) n (omega arith), cell_at_next page j)

  -- an entry of the page, in the first empty cell from its home on, is the answer
  same_page : get_or pages n 0 ≡ page → (w : First h page c) (m j : ℕ) (latest : Option ℕ) → j + m ≡ 8192 → j ≤ w.steps → probe_from m h' pages page (suc n) (cell_at page j) latest ≡ Some n
  same_page o w zero j latest s l = let b = w.within in absurd (omega arith)
  same_page o w (suc m) j latest s l =
      elim (eq-or-lt_of_le l) [
        | inl e ↦ at_c m j latest s (ap (cell_at page) e ∙ w.at) ∙ rw (eq-eqb (get_or pages n 0) page o)
        | inr b ↦ at_other m j latest (λ q. let x = w.within in let z = cell_at_once page j w.steps (omega arith) w.within (q ∙ sym w.at) in absurd (omega arith)) (w.before j b) ∙ same_page o w m (j + 1) _ (omega arith) (omega arith)
      ]

-- a probe starts no step from home
probe_starts : (h pages : List ℕ) (page visible : ℕ) → probe h pages page visible ≡ probe_from 8192 h pages page visible (cell_at page 0) None
unfolding probe
probe_starts h pages page visible = rw (cell_at_home page)

-- one insertion: the lookup law for a block of n entries gives it for one more
module _ (pages : List ℕ) (n page c : ℕ) (w : First (built pages n) (get_or pages n 0) c) (before : (v : ℕ) → v ≤ n → probe (built pages n) pages page v ≡ latest_below pages page v) where
  abbrev fits : c < length (built pages n)
  fits = first_fits pages n (get_or pages n 0) c w

  -- with the new entry not visible, the answer is the old one
  still : (v : ℕ) → v < suc n → probe (set (built pages n) c (n + 1)) pages page v ≡ latest_below pages page v
  unfolding probe
  still v l = hidden_set (built pages n) pages page v c (n + 1) fits w.empty (omega arith) 8192 (home page) None ∙ before v (omega arith)

  -- with it visible, it is the answer if it has the page
  newest : Dec (get_or pages n 0 ≡ page) → probe (set (built pages n) c (n + 1)) pages page (suc n) ≡ latest_below pages page (suc n)
  newest (yes o) =
      probe_starts (set (built pages n) c (n + 1)) pages page (suc n)
      ∙ same_page (built pages n) pages page n c fits w.empty (built_cell_le pages n) (built_behind pages n page) o (subst (λ (p : ℕ). First (built pages n) p c) o w) 8192 0 None refl (omega arith)
      ∙ sym (latest_here pages page n o)
  newest (no o) =
      probe_starts (set (built pages n) c (n + 1)) pages page (suc n)
      ∙ other_page (built pages n) pages page n c fits w.empty (built_cell_le pages n) (built_behind pages n page) o 8192 0 None refl
      ∙ sym (probe_starts (built pages n) pages page n)
      ∙ before n (omega arith)
      ∙ sym (latest_other pages page n o)

  -- for each visible length
  any : (v : ℕ) → (v ≡ suc n) ⊎ (v < suc n) → probe (set (built pages n) c (n + 1)) pages page v ≡ latest_below pages page v
  any v (inl e) = rw e (newest (ℕ_discrete (get_or pages n 0) page))
  any v (inr l) = still v l

-- THE LOOKUP LAW: the probe answers the greatest visible place of the page, or nothing where there is none
pub lookup : (pages : List ℕ) (n page v : ℕ) → n ≤ 8192 → v ≤ n → probe (built pages n) pages page v ≡ latest_below pages page v
unfolding built latest_below
lookup pages zero page zero l b =
    probe_starts cleared pages page 0
    ∙ nothing_more cleared pages page 0 8192 0 None refl (λ k i m p. let e = cleared_empty (cell_at page k) in let q = p.0 in absurd (omega arith))
lookup pages zero page (suc v) l b = absurd (omega arith)
lookup pages (suc n) page v l b =
    on_insert (λ (h : List ℕ). probe h pages page v ≡ latest_below pages page v) (built pages n) n (get_or pages n 0)
    (λ c w. any pages n page c w (λ u. lookup pages n page u (omega arith)) v (eq-or-lt_of_le b))
    (λ full. absurd (not_all_used pages n (get_or pages n 0) (omega arith) full))
