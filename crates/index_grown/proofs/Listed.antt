-- iter_latest_frames on a grown index gives the list of its entries. Assumes nothing.
use mathlib.Core.Path.{◌≡◌, refl, sym, ◌∙◌, ap, subst}
use mathlib.Core.Bool.{Bool, true, false, ◌||◌}
use mathlib.Core.List.Memᴰ
use mathlib.Core.List.{List, [], ◌∷◌, map, Memᴰ}
use mathlib.Core.Logic.{inl, inr}
use Prim.Native.Nat.{ℕ, zero, suc, ◌+◌, ◌-◌, ◌*◌, ◌/◌, ◌%◌, ◌<◌, ◌≤◌, min}
use native.Mathlib.Decide.{dec_le, dec_lt}
use native.Mathlib.Omega.{arith}
use lib.Dec.{eqb}
use lib.ListN.{length, get_or}
use borrow.Author.Tests.{eq-eqb, le-leb, lt-leb}
use Rattle.std.specs.Prelude.{Some}
use Rattle.wal_types.specs.Memory.{Memory}
use Rattle.wal_types.specs.Call.{Pair, pair}
use Rattle.index_hash.specs.Block.{built}
use Rattle.index_hash.proofs.Built.{built_length}
use Rattle.index_hash.proofs.Used.{built_named}
use Rattle.index_find.specs.Index.{block_of, block_pages_of}
use Rattle.index_find.specs.Find.{visible}
use Rattle.list_gather.specs.Named.{has_cell, named}
use Rattle.list_choose.specs.Chosen.{in_bounds}
use Rattle.list_latest.specs.Latest.{latest, listed_entries, pairs_of}
use Rattle.list_latest.proofs.Latest.{In, here, there, Rises, rises_none, rises_more, HasPage, in_nil, in_cons, latest_rises, latest_below, latest_last, latest_has}
use Rattle.index_grown.specs.Entries.{entries, greatest}
use Rattle.index_grown.specs.Grown.{BlocksBuilt, Grown}
use Rattle.index_grown.specs.Listed.{PagesRise, IsListOf}
use Rattle.index_grown.proofs.Lists.{IsGreatest, greatest_is, greatest_only}
use Rattle.index_grown.proofs.Entries.{entry, entries_member, entries_has, rises_to}
use Rattle.index_grown.proofs.Visible.{Counts, visible_counts}

-- a cell that holds the value
cell_there : (h : List ℕ) (c v : ℕ) → c < length h → get_or h c 0 ≡ v → has_cell h v ≡ true
unfolding has_cell
cell_there [] c v l e = absurd (omega arith)
cell_there (x ∷ h) zero v l e = rw (eq-eqb _ _ e)
cell_there (x ∷ h) (suc c) v l e = rw (cell_there h c v (omega arith) e) (go (eqb x v))
  where
    go : (t : Bool) → (t || true) ≡ true
    go true = refl
    go false = refl

-- ALL NAMED: where blocks are built, each entry is named by its block's hash
pub all_named : (n : ℕ) (ps hs : List ℕ) → BlocksBuilt n ps hs → (i : ℕ) → i < n → named hs i ≡ true
unfolding named
all_named n ps hs all i l =
    let r = min (n - 4096 * (i / 4096)) 4096 in
    let bp = block_pages_of (block_of i) ps in
    let c = built_named bp r (i % 4096) (omega arith) (omega arith) in
    let e = all (i / 4096) (omega arith) in
    rw e (cell_there (built bp r) c.0 (i % 4096 + 1) (rw (built_length bp r) c.1.0) c.1.1)

-- the entries within the bounds
module _ (fs : List ℕ) (low high : ℕ) where
  bounds_only : (l : List ℕ) (t : ℕ) → In t (in_bounds fs low high l) → In t l × ((low ≤ get_or fs t 0) × (get_or fs t 0 ≤ high))
  unfolding in_bounds
  bounds_only [] t i = in_nil _ t i
  bounds_only (s ∷ l) t i = go (bounds_only l t) (dec_le low (get_or fs s 0)) (dec_le (get_or fs s 0) high) i
    where
      behind : In t l × ((low ≤ get_or fs t 0) × (get_or fs t 0 ≤ high)) → In t (s ∷ l) × ((low ≤ get_or fs t 0) × (get_or fs t 0 ≤ high))
      behind r = (there s l r.0, r.1)

      go : (In t (in_bounds fs low high l) → In t l × ((low ≤ get_or fs t 0) × (get_or fs t 0 ≤ high))) → Dec (low ≤ get_or fs s 0) → Dec (get_or fs s 0 ≤ high) → In t (in_bounds fs low high (s ∷ l)) → In t (s ∷ l) × ((low ≤ get_or fs t 0) × (get_or fs t 0 ≤ high))
      go ih (yes a) (yes b) i =
          in_cons _ t s (in_bounds fs low high l) (rw (le-leb _ _ a, le-leb _ _ b) at i) (λ e. rw e (here l, (a, b))) (λ j. behind (ih j))
      go ih (yes a) (no b) i = behind (ih (rw (le-leb _ _ a, lt-leb (get_or fs s 0) high (omega arith)) at i))
      go ih (no a) b i = behind (ih (rw (lt-leb low (get_or fs s 0) (omega arith)) at i))

  bounds_every : (l : List ℕ) (t : ℕ) → In t l → low ≤ get_or fs t 0 → get_or fs t 0 ≤ high → In t (in_bounds fs low high l)
  unfolding in_bounds
  bounds_every [] t i a b = in_nil _ t i
  bounds_every (s ∷ l) t i a b = in_cons _ t s l i (λ e. first (rw e at a) (rw e at b) e) (λ j. go (bounds_every l t j a b) (dec_le low (get_or fs s 0)) (dec_le (get_or fs s 0) high))
    where
      first : low ≤ get_or fs s 0 → get_or fs s 0 ≤ high → t ≡ s → In t (in_bounds fs low high (s ∷ l))
      first c d e = rw (le-leb _ _ c, le-leb _ _ d, e) (here (in_bounds fs low high l))

      go : In t (in_bounds fs low high l) → Dec (low ≤ get_or fs s 0) → Dec (get_or fs s 0 ≤ high) → In t (in_bounds fs low high (s ∷ l))
      go j (yes c) (yes d) = rw (le-leb _ _ c, le-leb _ _ d) (there s (in_bounds fs low high l) j)
      go j (yes c) (no d) = rw (le-leb _ _ c, lt-leb (get_or fs s 0) high (omega arith)) j
      go j (no c) d = rw (lt-leb low (get_or fs s 0) (omega arith)) j

  bounds_rise : (ps : List ℕ) {l : List ℕ} → Rises ps l → Rises ps (in_bounds fs low high l)
  unfolding in_bounds
  bounds_rise ps rises_none = rises_none
  bounds_rise ps (rises_more s l above r) = go (bounds_rise ps r) (dec_le low (get_or fs s 0)) (dec_le (get_or fs s 0) high)
    where
      go : Rises ps (in_bounds fs low high l) → Dec (low ≤ get_or fs s 0) → Dec (get_or fs s 0 ≤ high) → Rises ps (in_bounds fs low high (s ∷ l))
      go ih (yes a) (yes b) = rw (le-leb _ _ a, le-leb _ _ b) (rises_more s (in_bounds fs low high l) (λ n i. above n (bounds_only l n i).0) ih)
      go ih (yes a) (no b) = rw (le-leb _ _ a, lt-leb (get_or fs s 0) high (omega arith)) ih
      go ih (no a) b = rw (lt-leb low (get_or fs s 0) (omega arith)) ih

-- entries as pairs
module _ (ps fs : List ℕ) where
  pairs_rise : (least : ℕ) {l : List ℕ} → ((n : ℕ) → In n l → least ≤ get_or ps n 0) → Rises ps l → PagesRise least (map (entry ps fs) l)
  pairs_rise least from rises_none = tt
  pairs_rise least from (rises_more s l above r) = (from s (here l), pairs_rise (get_or ps s 0 + 1) (λ n i. omega (arith, above n i)) r)

  pairs_only : (l : List ℕ) (q : Pair) → Memᴰ q (map (entry ps fs) l) → (t : ℕ) × (In t l × (q ≡ entry ps fs t))
  pairs_only [] q m = absurd (Memᴰ.not-nil m)
  pairs_only (s ∷ l) q m =
      elim (Memᴰ.cases_cons m) [
        | inl e ↦ (s, (here l, e))
        | inr i ↦ let r = pairs_only l q i in (r.0, (there s l r.1.0, r.1.1))
      ]

  pairs_every : (l : List ℕ) (t : ℕ) → In t l → Memᴰ (entry ps fs t) (map (entry ps fs) l)
  pairs_every [] t i = in_nil _ t i
  pairs_every (s ∷ l) t i = in_cons _ t s l i (λ e. Memᴰ.head (ap (entry ps fs) e)) (λ j. Memᴰ.tail (pairs_every l t j))

module _ (capacity b : ℕ) (m : Memory) (grown : Grown capacity b m) (low high : ℕ) where
  abbrev ps : List ℕ
  ps = m.pages

  abbrev fs : List ℕ
  fs = m.frames

  abbrev len : ℕ
  len = m.header.frame_index_len

  abbrev v : ℕ
  v = visible fs len high

  counted : Counts fs len high v
  counted = visible_counts fs len high grown.frames_rise

  all : (i : ℕ) → i < len → named m.hash i ≡ true
  all = all_named len ps m.hash grown.blocks_built

  -- an entry with a frame of at most high is visible
  seen : (i : ℕ) → i < len → get_or fs i 0 ≤ high → i < v
  seen i l b = go (dec_lt i v)
    where
      go : Dec (i < v) → i < v
      go (yes s) = s
      go (no s) = absurd (omega (arith, counted.past_top i (omega arith) l))

  -- an entry that is listed has its page's greatest frame
  listed_greatest : (t : ℕ) → In t (listed_entries low high m) → greatest (entries m) (get_or ps t 0) low high ≡ Some (get_or fs t 0)
  listed_greatest t i =
      let k = bounds_only fs low high (latest ps m.hash v) t i in
      let s = latest_below ps m.hash v t k.0 in
      let c = counted.within in
      sym
      (greatest_only (get_or ps t 0) low high (entries m) (Some (get_or fs t 0))
      (entries_has ps fs len t (omega arith), (k.1.0, (k.1.1, λ g j a b. most g k.0 s (entries_member ps fs len (pair (get_or ps t 0) g) j) b))))
    where
      most : (g : ℕ) → In t (latest ps m.hash v) → t < v → (i : ℕ) × ((i < len) × (pair (get_or ps t 0) g ≡ entry ps fs i)) → g ≤ high → g ≤ get_or fs t 0
      most g k s i b = go (dec_le i.0 t)
        where
          same_frame : g ≡ get_or fs i.0 0
          same_frame = ap (λ (q : Pair). q.frame) i.1.1

          go : Dec (i.0 ≤ t) → g ≤ get_or fs t 0
          go (yes l) = omega (arith, same_frame, rises_to len fs grown.frames_rise i.0 t l (omega (arith, counted.within)))
          go (no l) =
              absurd
              (latest_last ps m.hash v t k i.0 (omega arith) (seen i.0 i.1.0 (omega (arith, same_frame))) (all i.0 i.1.0) (sym (ap (λ (q : Pair). q.page) i.1.1)))

  -- and an entry with its page's greatest frame is listed
  greatest_listed : (page f : ℕ) → greatest (entries m) page low high ≡ Some f → Memᴰ (pair page f) (pairs_of m (listed_entries low high m))
  greatest_listed page f e =
      let is = subst (IsGreatest (entries m) page low high) e (greatest_is page low high (entries m)) in
      let i = entries_member ps fs len (pair page f) is.0 in
      Memᴰ.cast i.1.1 (pairs_every ps fs (listed_entries low high m) i.0 (go is i))
    where
      go : IsGreatest (entries m) page low high (Some f) → (i : (i : ℕ) × ((i < len) × (pair page f ≡ entry ps fs i))) → In i.0 (listed_entries low high m)
      go is i =
          bounds_every fs low high (latest ps m.hash v) i.0 (subst (λ (x : ℕ). In x (latest ps m.hash v)) same has.listed) (omega (arith, f_is, is.1.0)) (omega (arith, f_is, is.1.1.0))
        where
          f_is : f ≡ get_or fs i.0 0
          f_is = ap (λ (q : Pair). q.frame) i.1.1

          page_is : page ≡ get_or ps i.0 0
          page_is = ap (λ (q : Pair). q.page) i.1.1

          has : HasPage ps (latest ps m.hash v) i.0
          has = latest_has ps m.hash v i.0 (seen i.0 i.1.0 (omega (arith, f_is, is.1.1.0))) (all i.0 i.1.0)

          visible_entry : has.entry < v
          visible_entry = latest_below ps m.hash v has.entry has.listed

          there_too : Memᴰ (pair page (get_or fs has.entry 0)) (entries m)
          there_too =
              Memᴰ.cast (ap (λ (x : ℕ). pair x (get_or fs has.entry 0)) (page_is ∙ sym has.same_page)) (entries_has ps fs len has.entry (omega (arith, visible_entry, counted.within)))

          not_above : low ≤ get_or fs has.entry 0 → get_or fs has.entry 0 ≤ f
          not_above l = is.1.1.1 (get_or fs has.entry 0) there_too l (counted.up_to_top has.entry visible_entry)

          by_place : Dec (has.entry ≤ i.0) → has.entry ≡ i.0
          by_place (yes l) = omega (arith, has.later)
          by_place (no l) =
              let r = grown.frames_rise i.0 has.entry (omega arith) (omega (arith, visible_entry, counted.within)) in
              absurd (omega (arith, f_is, not_above (omega (arith, f_is, is.1.0))))

          same : has.entry ≡ i.0
          same = by_place (dec_le has.entry i.0)

  -- THE LIST LAW: iter_latest_frames gives each page that has a frame within the bounds, and no other, once, with the
  -- greatest, by rising page
  pub list_gives : IsListOf (entries m) low high (pairs_of m (listed_entries low high m))
  list_gives =
      record {
        rises = pairs_rise ps fs 0 (λ n i. omega arith) (bounds_rise fs low high ps (latest_rises ps m.hash v));
        only = λ page f i.
            let r = pairs_only ps fs (listed_entries low high m) (pair page f) i in
            subst (λ (q : Pair). greatest (entries m) q.page low high ≡ Some q.frame) (sym r.1.1) (listed_greatest r.0 r.1.0);
        every = greatest_listed;
      }
