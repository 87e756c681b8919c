-- What is known of the settings and the memory when refusals 1 and 2 do not apply. Assumes nothing.
use mathlib.Core.Path.{◌≡◌, refl}
use mathlib.Core.Bool.{Bool, true, false, not, ◌&&◌, ◌||◌, cond}
use Prim.Native.Nat.{ℕ, zero, ◌*◌, ◌≤◌}
use native.Mathlib.Omega.{arith}
use lib.Dec.{leb, ltb}
use borrow.Author.Tests.{leb-true, ltb-false, not-false}
use Rattle.wal_types.specs.declared.Header.{Header}
use Rattle.wal_types.specs.Settings.{within, capacity_in_limits, max_blocks_in_limits, entries_for, cells_for}
use Rattle.index_find.specs.Index.{bad_settings, short_entries, short_index, index_refusal, entries_refusal}

-- of a disjunction that is false, both sides are
or_false : (a b : Bool) → (a || b) ≡ false → (a ≡ false) × (b ≡ false)
or_false true b e = let z : ◌≡◌ {A = Bool} b false = cc in (e, z)
or_false false b e = (refl, e)

-- a number that is not out of its limits is within them
in_limits : (low high x : ℕ) → not (within low high x) ≡ false → (low ≤ x) × (x ≤ high)
in_limits low high x e = go (leb low x) (leb x high) refl refl (not-false _ e)
  where
    go : (a b : Bool) → leb low x ≡ a → leb x high ≡ b → (a && b) ≡ true → (low ≤ x) × (x ≤ high)
    go true true p q r = (leb-true _ _ p, leb-true _ _ q)
    go true false p q r = let z : ◌≡◌ {A = Bool} false true = r in (leb-true _ _ p, leb-true _ _ (cc))
    go false b p q r = (leb-true _ _ (cc), leb-true _ _ (cc))

pub record GoodSettings (capacity b : ℕ) (h : Header) : Type 0 where
  pub capacity_least : 1 ≤ capacity
  pub capacity_most : capacity ≤ 65536
  pub blocks_least : 1 ≤ b
  pub blocks_most : b ≤ 16
  pub len_in_capacity : h.frame_index_len ≤ capacity
  pub blocks_in_limit : h.frame_index_blocks ≤ b
  pub len_in_blocks : h.frame_index_len ≤ 4096 * h.frame_index_blocks

pub good_settings : (capacity b : ℕ) (h : Header) → bad_settings capacity b h ≡ false → GoodSettings capacity b h
good_settings capacity b h e =
    let t1 = not (capacity_in_limits capacity) in
    let t2 = not (max_blocks_in_limits b) in
    let t3 = ltb capacity h.frame_index_len in
    let t4 = ltb b h.frame_index_blocks in
    let t5 = ltb (entries_for h.frame_index_blocks) h.frame_index_len in
    let e5 = or_false (t1 || t2 || t3 || t4) t5 e in
    let e4 = or_false (t1 || t2 || t3) t4 e5.0 in
    let e3 = or_false (t1 || t2) t3 e4.0 in
    let e2 = or_false t1 t2 e3.0 in
    let c = in_limits 1 65536 capacity e2.0 in
    let d = in_limits 1 16 b e2.1 in
    record {
      capacity_least = c.0;
      capacity_most = c.1;
      blocks_least = d.0;
      blocks_most = d.1;
      len_in_capacity = ltb-false _ _ e3.1;
      blocks_in_limit = ltb-false _ _ e4.1;
      len_in_blocks = ltb-false _ _ e5.1;
    }

pub record LongEntries (b pages frames : ℕ) : Type 0 where
  pub pages_long : 4096 * b ≤ pages
  pub frames_long : 4096 * b ≤ frames

pub long_entries : (b pages frames : ℕ) → short_entries b pages frames ≡ false → LongEntries b pages frames
long_entries b pages frames e =
    let e2 = or_false (ltb pages (entries_for b)) (ltb frames (entries_for b)) e in
    record { pages_long = ltb-false _ _ e2.0; frames_long = ltb-false _ _ e2.1 }

pub record LongEnough (b pages frames hash : ℕ) : Type 0 where
  pub pages_long : 4096 * b ≤ pages
  pub frames_long : 4096 * b ≤ frames
  pub hash_long : 8192 * b ≤ hash

pub long_enough : (b pages frames hash : ℕ) → short_index b pages frames hash ≡ false → LongEnough b pages frames hash
long_enough b pages frames hash e =
    let e2 = or_false (short_entries b pages frames) (ltb hash (cells_for b)) e in
    let l = long_entries b pages frames e2.0 in
    record { pages_long = l.pages_long; frames_long = l.frames_long; hash_long = ltb-false _ _ e2.1 }

first_false : (a b : Bool) → cond a 1 (cond b 2 0) ≡ zero → (a ≡ false) × (b ≡ false)
first_false true b e = absurd (omega (arith, e))
first_false false true e = absurd (omega (arith, e))
first_false false false e = (refl, refl)

module _ (capacity b : ℕ) (h : Header) (pages frames hash : ℕ) (passed : index_refusal capacity b h pages frames hash ≡ 0) where
  -- with neither refusal, both are known
  pub passed_settings : GoodSettings capacity b h
  passed_settings = good_settings capacity b h (first_false (bad_settings capacity b h) (short_index b pages frames hash) passed).0

  pub passed_long : LongEnough b pages frames hash
  passed_long = long_enough b pages frames hash (first_false (bad_settings capacity b h) (short_index b pages frames hash) passed).1

  -- all entries below the length have their frames
  pub passed_frames : h.frame_index_len ≤ frames
  passed_frames = let good = passed_settings in let long = passed_long in omega arith

  -- a call that is lent no hash is not refused either
  pub entries_accepted : entries_refusal capacity b h pages frames ≡ 0
  entries_accepted =
      let e = first_false (bad_settings capacity b h) (short_index b pages frames hash) passed in
      rw (e.0, (or_false (short_entries b pages frames) (ltb hash (cells_for b)) e.1).0)

-- and so of a call that is lent no hash: all entries below the length have their cells
module _ (capacity b : ℕ) (h : Header) (pages frames : ℕ) (passed : entries_refusal capacity b h pages frames ≡ 0) where
  pub passed_entries : (h.frame_index_len ≤ pages) × (h.frame_index_len ≤ frames)
  passed_entries =
      let e = first_false (bad_settings capacity b h) (short_entries b pages frames) passed in
      let g = good_settings capacity b h e.0 in
      let l = long_entries b pages frames e.1 in
      (omega (arith, g.blocks_in_limit, g.len_in_blocks, l.pages_long), omega (arith, g.blocks_in_limit, g.len_in_blocks, l.frames_long))
