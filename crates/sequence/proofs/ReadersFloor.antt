-- The floor and the copy-back limit over a slot with a mark: a slot that they leave is counted. Assumes nothing.
use Rattle.std.specs.Prelude.{None, Option, Some}
use mathlib.Core.Path.{◌≡◌, refl, sym, ◌∙◌, subst}
use mathlib.Core.Bool.{Bool, true, false, not, ◌&&◌, ◌||◌}
use mathlib.Core.List.{List}
use mathlib.Core.Logic.{◌⊎◌, inl, inr}
use Prim.Native.Nat.{ℕ, zero, suc, ◌+◌, ◌<◌, ◌≤◌}
use native.Mathlib.Decide.{ℕ_discrete, dec_le}
use native.Mathlib.Omega.{arith}
use lib.ListN.{length, get_or, set, get_or-eq_default}
use lib.Seq.{get_or-set_same, get_or-set_other, set_out}
use lib.Dec.{eqb}
use borrow.Author.Tests.{eq-eqb, ne_eqb}
use Rattle.wal_types.specs.declared.SharedWalOwnershipMode.{SharedWalOwnershipMode}
use Rattle.wal_types.specs.declared.SharedWalOwnershipMode.TheVariants.{LinuxOfd, ProcessScopedFcntl}
use Rattle.wal_types.specs.Settings.{unused, is_fcntl}
use Rattle.wal_types.specs.Memory.{Memory, Process}
use Rattle.wal_types.specs.Store.{apply, when}
use Rattle.wal_types.specs.Refusal.{lowest}
use Rattle.wal_types.specs.Call.{Call, value, frame_found, turned_away, accepted, Done, after, does}
use Rattle.wal_types.proofs.Stores.{apply_append}
use Rattle.reader_slots.specs.Slots.{held, granted, empty_slot, empty_slots}
use Rattle.reader_probe.specs.Live.{skipped, dead, live}
use Rattle.reader_slots.proofs.Calls.{none_applies, enough_by}
use Rattle.reader_floor.specs.Floor.{floor_of, floor_answer, probe_tests, reclaim_dead, min_active_reader_frame}
use Rattle.reader_limit.specs.Limit.{limit_of, db_file_is_read, held_back, limit_at, copy_back_limit}
use Rattle.reader_slots.proofs.Cells.{get_or_any, and_false}
use Rattle.reader_slots.proofs.Some.{some_false}
use Rattle.reader_slots.proofs.Kept.{SlotSame, slot_same, emptied_other}
use Rattle.reader_floor.proofs.Least.{AtMost, floor_at_most}
use Rattle.sequence.proofs.SlotsAside.{by_tests}
use Rattle.sequence.proofs.SlotsCells.{not_both}

-- a frame cell made UNUSED, and one that was so already
unused_cell : (f : List ℕ) (i : ℕ) → get_or (set f i unused) i unused ≡ unused
unused_cell f i = go (dec_le (suc i) (length f))
  where
    go : Dec (i < length f) → get_or (set f i unused) i unused ≡ unused
    go (yes l) = get_or-set_same f i unused unused l
    go (no g) = rw (set_out f i unused (omega arith)) (get_or-eq_default f unused (omega arith))

still_unused : (f : List ℕ) (k i : ℕ) → get_or f i unused ≡ unused → get_or (set f k unused) i unused ≡ unused
still_unused f k i e = go (ℕ_discrete i k)
  where
    go : Dec (i ≡ k) → get_or (set f k unused) i unused ≡ unused
    go (yes q) = rw q (unused_cell f k)
    go (no g) = get_or-set_other f k i unused unused g ∙ e

emptied_frames : (mode : SharedWalOwnershipMode) (k : ℕ) (m : Memory) → (apply (empty_slot mode k m) m).reader_frames ≡ set m.reader_frames k unused
emptied_frames LinuxOfd k m = refl
emptied_frames ProcessScopedFcntl k m = refl

module _ (mode : SharedWalOwnershipMode) (bytes : List ℕ) (p : Process) (i : ℕ) where
  abbrev test : Memory → ℕ → Bool
  test = dead mode bytes p

  abbrev cell : Memory → ℕ
  cell m = get_or m.reader_frames i unused

  -- the memory with slot k emptied if the test says so
  abbrev turn : Bool → ℕ → Memory → Memory
  turn t k m = apply (when t (empty_slot mode k) m) m

  abbrev reclaimed : ℕ → ℕ → Memory → Memory
  reclaimed left k m = apply (empty_slots mode test left k m) m

  reclaimed_next : (left k : ℕ) (m : Memory) → reclaimed (suc left) k m ≡ reclaimed left (k + 1) (turn (test m k) k m)
  unfolding empty_slots
  reclaimed_next left k m = apply_append (when (test m k) (empty_slot mode k) m) (empty_slots mode test left (k + 1) (turn (test m k) k m)) m

  turn_unused : (t : Bool) (k : ℕ) (m : Memory) → cell m ≡ unused → cell (turn t k m) ≡ unused
  turn_unused true k m e = rw (emptied_frames mode k m) (still_unused m.reader_frames k i e)
  turn_unused false k m e = e

  stays_unused : (left k : ℕ) (m : Memory) → cell m ≡ unused → cell (reclaimed left k m) ≡ unused
  unfolding empty_slots
  stays_unused zero k m e = e
  stays_unused (suc left) k m e = rw (reclaimed_next left k m) (stays_unused left (k + 1) (turn (test m k) k m) (turn_unused (test m k) k m e))

  turn_same : (t : Bool) (k : ℕ) (m : Memory) → (i ≡ k → ⊥) → SlotSame i m (turn t k m)
  turn_same true k m f = emptied_other mode k i m f
  turn_same false k m f = slot_same i m

  same_test : (m m' : Memory) → SlotSame i m m' → test m' i ≡ test m i
  same_test m m' s = rw (s.frame_same unused, s.owner_same 0)

  -- a dead slot is emptied: one that is not was not dead
  here_spared : (t : Bool) (left : ℕ) (m : Memory) → test m i ≡ t → (cell (reclaimed left (i + 1) (turn t i m)) ≡ unused → ⊥) → test m i ≡ false
  here_spared true left m e f = absurd (f (stays_unused left (i + 1) (turn true i m) (rw (emptied_frames mode i m) (unused_cell m.reader_frames i))))
  here_spared false left m e f = e

  not_dead : (left k : ℕ) (m : Memory) → k ≤ i → i < k + left → (cell (reclaimed left k m) ≡ unused → ⊥) → test m i ≡ false
  not_dead zero k m a b f = absurd (omega arith)
  not_dead (suc left) k m a b f = go (ℕ_discrete i k) (not_dead left (k + 1) (turn (test m k) k m))
    where
      after_turn : cell (reclaimed left (k + 1) (turn (test m k) k m)) ≡ unused → ⊥
      after_turn e = f (rw (reclaimed_next left k m) e)

      go : Dec (i ≡ k) → (k + 1 ≤ i → i < k + 1 + left → (cell (reclaimed left (k + 1) (turn (test m k) k m)) ≡ unused → ⊥) → test (turn (test m k) k m) i ≡ false) → test m i ≡ false
      go (yes q) ih = here_spared (test m i) left m refl (subst (λ (j : ℕ). cell (reclaimed left (j + 1) (turn (test m j) j m)) ≡ unused → ⊥) (sym q) after_turn)
      go (no q) ih = sym (same_test m (turn (test m k) k m) (turn_same (test m k) k m q)) ∙ ih (omega arith) (omega arith) after_turn

-- a slot neither skipped nor dead is live
live_or_dead : (s h g : Bool) → s ≡ false → (not s && not h && g) ≡ false → (not s && (h || not g)) ≡ true
live_or_dead true h g e d = absurd (not_both true refl e)
live_or_dead false true g e d = refl
live_or_dead false false true e d = absurd (not_both true refl d)
live_or_dead false false false e d = refl

held_not_dead : (s g : Bool) → (not s && false && g) ≡ false
held_not_dead true g = refl
held_not_dead false g = refl

-- Slot i has mark x in the memory, by whichever process; it is held here, or has its mark afterwards.
module _ (n : ℕ) (mode : SharedWalOwnershipMode) (bytes : List ℕ) (m : Memory) (p : Process) (i x : ℕ) (below : i < n) (marked : get_or m.reader_frames i unused ≡ x) (used : x ≡ unused → ⊥) (owned : get_or m.reader_owners i 0 ≡ 0 → ⊥) where
  abbrev Stays : Memory → Type 0
  Stays m' = (held p i ≡ true) ⊎ (get_or m'.reader_frames i unused ≡ x)

  not_skipped : skipped mode m i ≡ false
  not_skipped = rw (marked, ne_eqb x unused used, ne_eqb (get_or m.reader_owners i 0) 0 owned) (and_false (is_fcntl mode))

  is_alive : Stays (apply (reclaim_dead mode bytes p n m) m) → dead mode bytes p m i ≡ false
  is_alive (inl h) = rw h (held_not_dead (skipped mode m i) (granted bytes i))
  is_alive (inr e) = not_dead mode bytes p i n 0 m (omega arith) (omega arith) (λ z. used (sym e ∙ z))

  is_live : Stays (apply (reclaim_dead mode bytes p n m) m) → live mode bytes p m i ≡ true
  is_live h = live_or_dead (skipped mode m i) (held p i) (granted bytes i) not_skipped (is_alive h)

  abbrev limit_call : Call
  limit_call m p = does (value (limit_at n mode bytes m p)) (reclaim_dead mode bytes p n) m p

  -- At mark 0 it is a reader of the database file: the limit is at most the number of copied frames.
  pub limit_copied : x ≡ 0 → accepted (after (copy_back_limit n mode bytes) m p).answer → Stays (after (copy_back_limit n mode bytes) m p).memory → (l : ℕ) × ((after (copy_back_limit n mode bytes) m p).answer ≡ value l) × (l ≤ m.header.nbackfills)
  unfolding copy_back_limit
  limit_copied file =
      by_tests (probe_tests n mode bytes n) limit_call m p Bound (λ k a. absurd (a turned_away)) (λ e a h. (limit_at n mode bytes m p, refl, go (db_file_is_read n mode bytes m p) refl h))
    where
      Bound : Done → Type 0
      Bound d = accepted d.answer → Stays d.memory → (l : ℕ) × (d.answer ≡ value l) × (l ≤ m.header.nbackfills)

      test : ℕ → Bool
      test j = live mode bytes p m j && eqb (get_or m.reader_frames j unused) 0

      here : Stays (apply (reclaim_dead mode bytes p n m) m) → test i ≡ true
      here h = rw (is_live h, marked, eq-eqb x 0 file)

      go : (is_read : Bool) → db_file_is_read n mode bytes m p ≡ is_read → Stays (apply (reclaim_dead mode bytes p n m) m) → held_back is_read m.header.nbackfills (limit_of m.header.max_frame (floor_of n mode bytes m p)) ≤ m.header.nbackfills
      go true e h = omega arith
      go false e h = absurd (not_both (test i) (here h) (some_false test n 0 e i (omega arith) (omega arith)))

  -- At a mark above 0 the floor exists and is at most it, and so is the limit.
  module _ (some : 1 ≤ x) where
    bounded : lowest (probe_tests n mode bytes n m p) ≡ 0 → Stays (apply (reclaim_dead mode bytes p n m) m) → AtMost x (floor_of n mode bytes m p)
    bounded e h =
        let t = none_applies (probe_tests n mode bytes n m p) e in
        let r = enough_by n (length m.bitmap) (length m.reader_frames) (length m.reader_owners) (length p.local_readers) t.0 t.1.0 in
        floor_at_most mode bytes p m n i x below (is_live h) (get_or_any m.reader_frames i 0 unused (omega arith) ∙ marked) (λ z. (omega arith))

    pub floor_bound : accepted (after (min_active_reader_frame n mode bytes) m p).answer → Stays (after (min_active_reader_frame n mode bytes) m p).memory → (f : ℕ) × ((after (min_active_reader_frame n mode bytes) m p).answer ≡ frame_found f) × (f ≤ x)
    unfolding min_active_reader_frame AtMost
    floor_bound =
        by_tests (probe_tests n mode bytes n) (λ m p. does (floor_answer (floor_of n mode bytes m p)) (reclaim_dead mode bytes p n) m p) m p Bound (λ k a. absurd (a turned_away)) (λ e a h. go (floor_of n mode bytes m p) (bounded e h))
      where
        Bound : Done → Type 0
        Bound d = accepted d.answer → Stays d.memory → (f : ℕ) × (d.answer ≡ frame_found f) × (f ≤ x)

        go : (fl : Option ℕ) → AtMost x fl → (f : ℕ) × (floor_answer fl ≡ frame_found f) × (f ≤ x)
        go (Some f) h = (f, refl, h)
        go None h = absurd h

    pub limit_bound : accepted (after (copy_back_limit n mode bytes) m p).answer → Stays (after (copy_back_limit n mode bytes) m p).memory → (l : ℕ) × ((after (copy_back_limit n mode bytes) m p).answer ≡ value l) × (l ≤ x)
    unfolding copy_back_limit AtMost
    limit_bound =
        by_tests (probe_tests n mode bytes n) limit_call m p Bound (λ k a. absurd (a turned_away)) (λ e a h. (limit_at n mode bytes m p, refl, go (db_file_is_read n mode bytes m p) (floor_of n mode bytes m p) (bounded e h)))
      where
        Bound : Done → Type 0
        Bound d = accepted d.answer → Stays d.memory → (l : ℕ) × (d.answer ≡ value l) × (l ≤ x)

        -- a reader of the database file only lowers the limit
        go : (is_read : Bool) (fl : Option ℕ) → AtMost x fl → held_back is_read m.header.nbackfills (limit_of m.header.max_frame fl) ≤ x
        go true (Some f) h = omega arith
        go false (Some f) h = omega arith
        go true None h = absurd h
        go false None h = absurd h
