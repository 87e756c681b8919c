-- Lookups on a grown index: the greatest frame of the page within the bounds. Assumes nothing.
use mathlib.Core.Path.{◌≡◌, refl, sym, ◌∙◌, ap, subst}
use mathlib.Core.List.{List}
use Prim.Native.Nat.{ℕ, zero, suc, ◌+◌, ◌-◌, ◌*◌, ◌<◌, ◌≤◌, min, max}
use native.Mathlib.Decide.{ℕ_discrete, dec_le}
use native.Mathlib.Omega.{arith}
use lib.ListN.{get_or}
use borrow.Author.Tests.{le-leb, lt-leb, lt-ltb, le-ltb}
use Rattle.std.specs.Prelude.{Option, Some, None}
use Rattle.wal_types.specs.Memory.{Memory}
use Rattle.wal_types.specs.Call.{none, Pair, pair}
use Rattle.index_hash.specs.Block.{probe, looked}
use Rattle.index_hash.specs.InnerLatest.{latest_below}
use Rattle.index_hash.proofs.Latest.{latest_here, latest_other}
use Rattle.index_hash.proofs.Lookup.{lookup}
use Rattle.index_hash.proofs.Looked.{looked_le}
use Rattle.index_find.specs.Index.{block_cells_of, block_pages_of}
use Rattle.index_find.specs.Find.{visible, probe_block, looked_up, else_look, find_in, blocks_for, lookup_answer, find_answer}
use Rattle.index_find.proofs.Blocks.{block_page}
use Rattle.index_grown.specs.Entries.{entries_of, entries, higher, frame_in, greatest}
use Rattle.index_grown.specs.Grown.{FramesRise, BlocksBuilt, Grown}
use Rattle.index_grown.proofs.Lists.{greatest_more, greatest_none, greatest_crossed, frame_other, frame_below, frame_above, frame_here, higher_none, IsGreatest, greatest_is}
use Rattle.index_grown.proofs.Entries.{entry, entries_next, entries_each, entries_member, rise_fewer, rises_to}
use Rattle.index_grown.proofs.Visible.{visible_counts}

-- a greater frame is the higher
higher_here : (r : Option ℕ) (f : ℕ) → ((g : ℕ) → r ≡ Some g → g ≤ f) → higher r (Some f) ≡ Some f
higher_here (Some g) f most = let l = most g refl in let e : max g f ≡ f = omega arith in ap Some e
higher_here None f most = refl

module _ (ps fs : List ℕ) (page low high : ℕ) where
  abbrev best : ℕ → Option ℕ
  best n = greatest (entries_of n ps fs) page low high

  best_none : best 0 ≡ None
  unfolding greatest entries_of
  best_none = refl

  -- one entry more
  best_next : (n : ℕ) → best (suc n) ≡ higher (best n) (frame_in page low high (entry ps fs n))
  best_next n = ap (λ (l : List Pair). greatest l page low high) (entries_next ps fs n) ∙ greatest_more page low high (entries_of n ps fs) (entry ps fs n)

  -- an entry that gives no frame changes nothing
  best_same : (n : ℕ) → frame_in page low high (entry ps fs n) ≡ None → best (suc n) ≡ best n
  best_same n e = best_next n ∙ (ap (higher (best n)) e ∙ higher_none (best n))

  -- frames below the lower bound give none
  best_below : (n : ℕ) → ((i : ℕ) → i < n → get_or fs i 0 < low) → best n ≡ None
  best_below n all = greatest_none page low high (entries_of n ps fs) (entries_each ps fs (λ q. frame_in page low high q ≡ None) n (λ i l. frame_below page low high (entry ps fs i) (all i l)))

  -- a frame given is that of some entry
  best_is : (n f : ℕ) → best n ≡ Some f → (i : ℕ) × ((i < n) × (f ≡ get_or fs i 0))
  best_is n f e =
      let is = subst (IsGreatest (entries_of n ps fs) page low high) e (greatest_is page low high (entries_of n ps fs)) in
      let r = entries_member ps fs n (pair page f) is.0 in
      (r.0, (r.1.0, ap (λ (q : Pair). q.frame) r.1.1))

  -- entries past the upper bound change nothing
  best_past : (v more : ℕ) → ((i : ℕ) → v ≤ i → i < v + more → high < get_or fs i 0) → best (v + more) ≡ best v
  best_past v zero above = let e : v + 0 ≡ v = omega arith in ap best e
  best_past v (suc more) above =
      let e : v + suc more ≡ suc (v + more) = omega arith in
      ap best e ∙ (best_same (v + more) (frame_above page low high (entry ps fs (v + more)) (above (v + more) (omega arith) (omega arith))) ∙ best_past v more (λ i l b. above i l (omega arith)))

  -- One block, of base on: the latest entry of the page there, if within the bounds, else what the entries before give.
  module _ (v : ℕ) (rise : FramesRise v fs) (visible_all : (i : ℕ) → i < v → get_or fs i 0 ≤ high) (k : ℕ) (bp : List ℕ) where
    abbrev base : ℕ
    base = 4096 * k

    abbrev answer : ℕ → Option ℕ
    answer r = else_look (looked_up k fs low high (latest_below bp page r)) (best base)

    in_block : (r : ℕ) → base + r ≤ v → ((i : ℕ) → i < r → get_or bp i 0 ≡ get_or ps (base + i) 0) → answer r ≡ best (base + r)
    unfolding latest_below
    in_block zero l same = let e : base + 0 ≡ base = omega arith in ap best (sym e)
    in_block (suc r) l same = go (in_block r (omega arith) (λ i b. same i (omega arith))) (ℕ_discrete (get_or bp r 0) page) (dec_le low (get_or fs (base + r) 0)) ∙ ap best (sym e)
      where
        e : base + suc r ≡ suc (base + r)
        e = omega arith

        go : answer r ≡ best (base + r) → Dec (get_or bp r 0 ≡ page) → Dec (low ≤ get_or fs (base + r) 0) → answer (suc r) ≡ best (suc (base + r))
        go ih (no o) d =
            ap (λ (x : Option ℕ). else_look (looked_up k fs low high x) (best base)) (latest_other bp page r o)
            ∙ (ih ∙ sym (best_same (base + r) (frame_other page low high (entry ps fs (base + r)) (λ q. o (same r (omega arith) ∙ q)))))
        go ih (yes o) (yes d) =
            let u = visible_all (base + r) (omega arith) in
            let here = frame_here page low high (entry ps fs (base + r)) (sym (same r (omega arith)) ∙ o) d u in
            ap (λ (x : Option ℕ). else_look (looked_up k fs low high x) (best base)) (latest_here bp page r o)
            ∙ (rw (le-leb _ _ d, le-leb _ _ u)
            (sym (best_next (base + r) ∙ (ap (higher (best (base + r))) here ∙ higher_here (best (base + r)) (get_or fs (base + r) 0) (λ g q. let i = best_is (base + r) g q in omega (arith, i.1.1, rise i.0 (base + r) i.1.0 (omega arith)))))))
        go ih (yes o) (no d) =
            let below : (i : ℕ) → i < suc (base + r) → get_or fs i 0 < low = λ i b. omega (arith, rises_to v fs rise i (base + r) (omega arith) (omega arith)) in
            ap (λ (x : Option ℕ). else_look (looked_up k fs low high x) (best base)) (latest_here bp page r o)
            ∙ (rw (lt-leb low (get_or fs (base + r) 0) (omega arith))
            (best_below base (λ i b. below i (omega arith)) ∙ sym (best_below (suc (base + r)) below)))

  -- All blocks: each is probed as it was built, so together they give the greatest frame.
  module _ (hs : List ℕ) (n : ℕ) (all_built : BlocksBuilt n ps hs) (v : ℕ) (most : v ≤ n) (rise : FramesRise v fs) (visible_all : (i : ℕ) → i < v → get_or fs i 0 ≤ high) where
    -- a probe of block k gives the page's latest visible entry there
    pub probe_built : (k : ℕ) → 4096 * k < v → probe_block k page v ps hs ≡ latest_below (block_pages_of k ps) page (min (v - 4096 * k) 4096)
    probe_built k l =
        ap (λ (h : List ℕ). probe h (block_pages_of k ps) page (min (v - 4096 * k) 4096)) (all_built k (omega arith))
        ∙ lookup (block_pages_of k ps) (min (n - 4096 * k) 4096) page (min (v - 4096 * k) 4096) (omega arith) (omega arith)

    blocks_give : (k : ℕ) → k ≤ blocks_for v → find_in k v ps fs hs page low high ≡ best (min v (4096 * k))
    unfolding find_in
    blocks_give zero l = let e : min v (4096 * 0) ≡ 0 = omega arith in sym (ap best e ∙ best_none)
    blocks_give (suc k) l =
        let e : min v (4096 * k) ≡ 4096 * k = omega arith in
        let s : 4096 * k + min (v - 4096 * k) 4096 ≡ min v (4096 * suc k) = omega arith in
        rw (probe_built k (omega arith), blocks_give k (omega arith), e)
        (in_block v rise visible_all k (block_pages_of k ps) (min (v - 4096 * k) 4096) (omega arith) (λ i b. block_page k ps i (omega arith)) ∙ ap best s)

    pub find_gives : find_in (blocks_for v) v ps fs hs page low high ≡ best v
    find_gives = let e : min v (4096 * blocks_for v) ≡ v = omega arith in blocks_give (blocks_for v) (omega arith) ∙ ap best e

-- what the visible entries up to a bound give is what all give
visible_best : (ps fs : List ℕ) (page low high n : ℕ) (rise : FramesRise n fs) → greatest (entries_of (visible fs n high) ps fs) page low high ≡ greatest (entries_of n ps fs) page low high
visible_best ps fs page low high n rise =
    let c = visible_counts fs n high rise in
    let e : visible fs n high + (n - visible fs n high) ≡ n = omega arith in
    sym (best_past ps fs page low high (visible fs n high) (n - visible fs n high) (λ i l b. c.past_top i l (omega arith))) ∙ ap (best ps fs page low high) e

module _ (capacity b : ℕ) (m : Memory) (grown : Grown capacity b m) where
  abbrev len : ℕ
  len = m.header.frame_index_len

  -- what the blocks of the entries up to a bound give
  pub find_greatest : (page low high : ℕ) → find_in (blocks_for (visible m.frames len high)) (visible m.frames len high) m.pages m.frames m.hash page low high ≡ greatest (entries m) page low high
  find_greatest page low high =
      let c = visible_counts m.frames len high grown.frames_rise in
      find_gives m.pages m.frames page low high m.hash len grown.blocks_built (visible m.frames len high) c.within (rise_fewer len (visible m.frames len high) m.frames c.within grown.frames_rise) c.up_to_top
      ∙ visible_best m.pages m.frames page low high len grown.frames_rise

  -- THE LOOKUP LAW: a lookup gives the greatest frame of the page within the bounds, or none
  pub lookup_gives : (page low high : ℕ) → find_answer page low high None m ≡ lookup_answer (greatest (entries m) page low high)
  lookup_gives page low high = go (dec_le low high)
    where
      go : Dec (low ≤ high) → find_answer page low high None m ≡ lookup_answer (greatest (entries m) page low high)
      go (yes l) = rw (le-ltb high low l) (ap lookup_answer (find_greatest page low high))
      go (no l) = rw (lt-ltb high low (omega arith), greatest_crossed page low high (omega arith) (entries m))

  -- with a watermark: none if it is below min, else the greatest frame of the page up to it
  pub lookup_below : (page low high w : ℕ) → w < low → find_answer page low high (Some w) m ≡ none
  lookup_below page low high w l = rw (lt-ltb w low l)

  pub lookup_watermark : (page low high w : ℕ) → low ≤ w → find_answer page low high (Some w) m ≡ lookup_answer (greatest (entries m) page 0 w)
  lookup_watermark page low high w l = rw (le-ltb w low l) (ap lookup_answer (find_greatest page 0 w))

  -- CELLS LOOKED AT: at most 4,097 in each block that has an entry
  pub looked_most : (k page v : ℕ) → 4096 * k < len → looked (block_cells_of k m.hash) page v ≤ 4097
  looked_most k page v l = rw (grown.blocks_built k l) (omega (arith, looked_le (block_pages_of k m.pages) (min (len - 4096 * k) 4096) page v))
