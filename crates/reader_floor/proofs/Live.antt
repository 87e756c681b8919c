-- The pass over live and dead slots: dead ones are reclaimed, and the slots still to come stay as they were. Assumes
-- nothing.
use mathlib.Core.Path.{◌≡◌, refl, sym, ap, ◌∙◌}
use mathlib.Core.Bool.{Bool, true, false, not, cond, ◌&&◌, ◌||◌}
use mathlib.Core.List.{List}
use Prim.Native.Nat.{ℕ, suc, ◌+◌, ◌-◌, ◌<◌, ◌≤◌}
use native.Mathlib.Nat.{sub-zero}
use native.Mathlib.Omega.{arith}
use lib.Dec.{eqb}
use lib.ListN.{length, get_or, set}
use lib.Seq.{get_or-set_other}
use Rattle.wal_types.specs.declared.SharedWalOwnershipMode.{SharedWalOwnershipMode}
use Rattle.wal_types.specs.Settings.{unused}
use Rattle.wal_types.specs.Memory.{Memory, Process, blank_memory, blank_process}
use Rattle.std.specs.Prelude.{Option, Some, None}
use Rattle.reader_slots.specs.Slots.{granted, empty_slot, slots_in, locals_in}
use Rattle.reader_slots.specs.Search.{lowest_slot, some_slot}
use Rattle.reader_probe.specs.Live.{dead, live, lower_floor, looked_at}
use Rattle.reader_floor.specs.Floor.{floor_from, floor_of}
use Rattle.wal_types.specs.declared.settings.ReaderSettings.{ReaderSettings}
use Rattle.reader_slots.specs.declared.slots.SharedSlots.{SharedSlots}
use Rattle.reader_slots.specs.Inner.{emptied_if, lent_in, SameSlots, SlotsBecome}
use Rattle.reader_slots.proofs.Lent.{same_lent, lent_then}
use Rattle.reader_probe.specs.Inner.{skipped_cell, live_by, live_db_file_by, live_frame, marks_with, is_db_file}
use Rattle.reader_probe.specs.declared.live.LiveMarks.{LiveMarks}
use Rattle.reader_floor.specs.Inner.{MarksOf, first_db_file, DbFileOf}
use Rattle.reader_slots.proofs.Cells.{get_or_any, live_not_dead}
use Rattle.wal_types.specs.Store.{apply}
use Rattle.reader_slots.proofs.Emptied.{bit_freed, emptied_slot, emptied, emptied_done, emptied_next}
use Rattle.reader_slots.proofs.Lowest.{lowest_here, lowest_next, lowest_done}
use Rattle.reader_probe.proofs.Looked.{looked_bound}

-- the slots from i on are as they were
pub record SameFrom (i : ℕ) (s s₀ : SharedSlots) : Type 0 where
  pub frames_same : (j d : ℕ) → i ≤ j → get_or s.reader_frames.now j d ≡ get_or s₀.reader_frames.now j d
  pub owners_same : (j d : ℕ) → i ≤ j → get_or s.reader_owners.now j d ≡ get_or s₀.reader_owners.now j d

same_start : (s : SharedSlots) → SameFrom 0 s s
same_start s = record { frames_same = λ j d a. refl; owners_same = λ j d a. refl }

-- A pass that may empty slot i leaves the later ones. What is said of every memory is read off at the blank one.
module _ (mode : SharedWalOwnershipMode) (i : ℕ) (s s' : SharedSlots) where
  abbrev before : Memory
  before = lent_in blank_memory s

  emptied_here : lent_in blank_memory s' ≡ apply (empty_slot mode i before) before → lent_in blank_memory s' ≡ slots_in blank_memory (bit_freed s.bitmap.now i) (set s.reader_frames.now i unused) (set s.reader_owners.now i 0)
  emptied_here e = e ∙ emptied_slot mode blank_memory s.bitmap.now s.reader_frames.now s.reader_owners.now i

  later_frame : (t : Bool) → lent_in blank_memory s' ≡ emptied_if mode t i before → (j d : ℕ) → i + 1 ≤ j → get_or s'.reader_frames.now j d ≡ get_or s.reader_frames.now j d
  later_frame true e j d a = ap (λ (m : Memory). get_or m.reader_frames j d) (emptied_here e) ∙ get_or-set_other s.reader_frames.now i j unused d (λ s. omega arith)
  later_frame false e j d a = ap (λ (m : Memory). get_or m.reader_frames j d) e

  later_owner : (t : Bool) → lent_in blank_memory s' ≡ emptied_if mode t i before → (j d : ℕ) → i + 1 ≤ j → get_or s'.reader_owners.now j d ≡ get_or s.reader_owners.now j d
  later_owner true e j d a = ap (λ (m : Memory). get_or m.reader_owners j d) (emptied_here e) ∙ get_or-set_other s.reader_owners.now i j 0 d (λ s. omega arith)
  later_owner false e j d a = ap (λ (m : Memory). get_or m.reader_owners j d) e

  same_next : (bytes l : List ℕ) (s₀ : SharedSlots) → SameFrom i s s₀ → SlotsBecome (λ m p. emptied_if mode (dead mode bytes p m i) i m) s l s' → SameFrom (i + 1) s' s₀
  same_next bytes l s₀ h e =
      let gone = dead mode bytes (locals_in blank_process l) before i in
      let at_blank = e.1 blank_memory blank_process in
      record {
        frames_same = λ j d a. later_frame gone at_blank j d a ∙ h.frames_same j d (omega arith);
        owners_same = λ j d a. later_owner gone at_blank j d a ∙ h.owners_same j d (omega arith);
      }

-- one slot's answer, by the slots as they were
abbrev Told : SharedWalOwnershipMode → List ℕ → SharedSlots → List ℕ → ℕ → Option ℕ → Type 0
Told mode bytes s l i r = r ≡ live_frame (live_by mode bytes s l i) (get_or s.reader_frames.now i 0)

told_before : (mode : SharedWalOwnershipMode) (bytes : List ℕ) (s s₀ : SharedSlots) (l : List ℕ) (i : ℕ) (r : Option ℕ) → SameFrom i s s₀ → Told mode bytes s l i r → Told mode bytes s₀ l i r
told_before mode bytes s s₀ l i r h e =
    e ∙ rw (h.frames_same i unused (omega arith), h.frames_same i 0 (omega arith), h.owners_same i 0 (omega arith))

told_db_file : (t : Bool) (frame : ℕ) → is_db_file (live_frame t frame) ≡ (t && eqb frame 0)
told_db_file true frame = refl
told_db_file false frame = refl

-- whether slot i has a live reader of the database file, by the slots now and as they were
module _ (mode : SharedWalOwnershipMode) (bytes : List ℕ) (s : SharedSlots) (l : List ℕ) (i : ℕ) (cell : i < length s.reader_frames.now) (r : Option ℕ) (e : Told mode bytes s l i r) where
  db_now : is_db_file r ≡ live_db_file_by mode bytes s l i
  db_now = rw (e, told_db_file (live_by mode bytes s l i) (get_or s.reader_frames.now i 0), get_or_any s.reader_frames.now i 0 unused cell)

  db_before : (s₀ : SharedSlots) → SameFrom i s s₀ → is_db_file r ≡ live_db_file_by mode bytes s₀ l i
  db_before s₀ h = db_now ∙ rw (h.frames_same i unused (omega arith), h.owners_same i 0 (omega arith))

-- The marks of live slots, with i slots passed.
pub record MarksSoFar (settings : ReaderSettings) (bytes : List ℕ) (s₀ : SharedSlots) (l : List ℕ) (i : ℕ) (s : SharedSlots) (so_far : LiveMarks) : Type 0 where
  pub lent : SameSlots s₀ s
  pub same : SameFrom i s s₀
  pub least : (z : Memory) (p : Process) → floor_from settings.mode bytes (locals_in p l) (lent_in z s₀) (settings.n - i) i so_far.floor ≡ floor_of settings.n settings.mode bytes (lent_in z s₀) (locals_in p l)
  pub some_reader : (so_far.db_file_reader || some_slot (live_db_file_by settings.mode bytes s₀ l) (settings.n - i) i) ≡ some_slot (live_db_file_by settings.mode bytes s₀ l) settings.n 0
  pub reclaimed : (z : Memory) (p : Process) → emptied settings.mode (dead settings.mode bytes (locals_in p l)) (settings.n - i) i (lent_in z s) ≡ emptied settings.mode (dead settings.mode bytes (locals_in p l)) settings.n 0 (lent_in z s₀)

-- the marks with one slot's, by what is told of the slot
floor_told : (t : Bool) (frame : ℕ) (so_far : LiveMarks) → (marks_with so_far (live_frame t frame)).floor ≡ cond t (lower_floor so_far.floor frame) so_far.floor
floor_told true frame so_far = refl
floor_told false frame so_far = refl

reader_told : (so_far : LiveMarks) (r : Option ℕ) → (marks_with so_far r).db_file_reader ≡ (is_db_file r || so_far.db_file_reader)
reader_told so_far (Some frame) = refl
reader_told so_far None = refl

floor_next : (mode : SharedWalOwnershipMode) (bytes : List ℕ) (p : Process) (m : Memory) (left less i : ℕ) (so_far whole : Option ℕ) → floor_from mode bytes p m left i so_far ≡ whole → left ≡ suc less → floor_from mode bytes p m less (i + 1) (cond (live mode bytes p m i) (lower_floor so_far (get_or m.reader_frames i 0)) so_far) ≡ whole
unfolding floor_from
floor_next mode bytes p m left less i so_far whole e more = rw more at e

floor_done : (mode : SharedWalOwnershipMode) (bytes : List ℕ) (p : Process) (m : Memory) (left i : ℕ) (so_far whole : Option ℕ) → floor_from mode bytes p m left i so_far ≡ whole → left ≡ 0 → so_far ≡ whole
unfolding floor_from
floor_done mode bytes p m left i so_far whole e z = rw z at e

-- a search for some slot, with a finding so far
met_next : (test : ℕ → Bool) (t met whole : Bool) (left less i : ℕ) → (met || some_slot test left i) ≡ whole → left ≡ suc less → test i ≡ t → ((t || met) || some_slot test less (i + 1)) ≡ whole
unfolding some_slot
met_next test true true whole left less i e more q = e
met_next test true false whole left less i e more q = rw (more, q) at e
met_next test false true whole left less i e more q = e
met_next test false false whole left less i e more q = rw (more, q) at e

met_done : (test : ℕ → Bool) (met whole : Bool) (left i : ℕ) → (met || some_slot test left i) ≡ whole → left ≡ 0 → whole ≡ met
unfolding some_slot
met_done test true whole left i e z = sym e
met_done test false whole left i e z = sym (rw z at e)

pub marks_start : (settings : ReaderSettings) (bytes : List ℕ) (s : SharedSlots) (l : List ℕ) → MarksSoFar settings bytes s l 0 s (record { floor = None; db_file_reader = false })
marks_start settings bytes s l =
    record {
      lent = same_lent s;
      same = same_start s;
      least = λ z p. rw (sub-zero settings.n);
      some_reader = rw (sub-zero settings.n);
      reclaimed = λ z p. rw (sub-zero settings.n);
    }

-- The first live slot of mark 0, with i slots passed.
pub record DbFileSoFar (settings : ReaderSettings) (bytes : List ℕ) (s₀ : SharedSlots) (l : List ℕ) (i : ℕ) (s : SharedSlots) : Type 0 where
  pub lent : SameSlots s₀ s
  pub same : SameFrom i s s₀
  pub search : lowest_slot (live_db_file_by settings.mode bytes s₀ l) (settings.n - i) i ≡ first_db_file settings bytes s₀ l
  pub reclaimed : (z : Memory) (p : Process) → emptied settings.mode (dead settings.mode bytes (locals_in p l)) (looked_at settings.n (first_db_file settings bytes s₀ l) - i) i (lent_in z s) ≡ emptied settings.mode (dead settings.mode bytes (locals_in p l)) (looked_at settings.n (first_db_file settings bytes s₀ l)) 0 (lent_in z s₀)

pub db_file_start : (settings : ReaderSettings) (bytes : List ℕ) (s : SharedSlots) (l : List ℕ) → DbFileSoFar settings bytes s l 0 s
db_file_start settings bytes s l =
    record {
      lent = same_lent s;
      same = same_start s;
      search = rw (sub-zero settings.n);
      reclaimed = λ z p. rw (sub-zero (looked_at settings.n (first_db_file settings bytes s l)));
    }

both_left : (a c : Bool) → (a && c) ≡ true → a ≡ true
both_left true c e = refl
both_left false c e = e

module _ (settings : ReaderSettings) (bytes : List ℕ) (s₀ : SharedSlots) (l : List ℕ) (i : ℕ) (s : SharedSlots) where
  abbrev n : ℕ
  n = settings.n

  abbrev mode : SharedWalOwnershipMode
  mode = settings.mode

  module _ (so_far : LiveMarks) (h : MarksSoFar settings bytes s₀ l i s so_far) where
    abbrev is_read : ℕ → ℕ → Bool
    is_read = some_slot (live_db_file_by mode bytes s₀ l)

    pub marks_turn : i < n → i < length s.reader_frames.now → (s' : SharedSlots) (r : Option ℕ) → Told mode bytes s l i r × SlotsBecome (λ m p. emptied_if mode (dead mode bytes p m i) i m) s l s' → MarksSoFar settings bytes s₀ l (i + 1) s' (marks_with so_far r)
    marks_turn lt cell s' r e =
        record {
          lent = lent_then s₀ s s' h.lent e.1.0;
          same = same_next mode i s s' bytes l s₀ h.same e.1;
          least =
              λ z p. rw (told_before mode bytes s s₀ l i r h.same e.0, floor_told (live_by mode bytes s₀ l i) (get_or s₀.reader_frames.now i 0) so_far)
              (floor_next mode bytes (locals_in p l) (lent_in z s₀) (n - i) (n - (i + 1)) i so_far.floor (floor_of n mode bytes (lent_in z s₀) (locals_in p l)) (h.least z p) (omega arith));
          some_reader =
              rw (reader_told so_far r)
              (met_next (live_db_file_by mode bytes s₀ l) (is_db_file r) so_far.db_file_reader (is_read n 0) (n - i) (n - (i + 1)) i h.some_reader (omega arith) (sym (db_before mode bytes s l i cell r e.0 s₀ h.same)));
          reclaimed = λ z p. emptied_next mode (dead mode bytes (locals_in p l)) (n - i) i (lent_in z s) (emptied mode (dead mode bytes (locals_in p l)) n 0 (lent_in z s₀)) (h.reclaimed z p) (n - (i + 1)) (omega arith) (lent_in z s') (e.1.1 z p);
        }

    pub marks_end : i ≡ n → MarksOf settings bytes s₀ l so_far s
    unfolding MarksOf emptied
    marks_end e = (
      met_done (live_db_file_by mode bytes s₀ l) so_far.db_file_reader (is_read n 0) (n - i) i h.some_reader (omega arith),
      λ z p. sym (floor_done mode bytes (locals_in p l) (lent_in z s₀) (n - i) i so_far.floor (floor_of n mode bytes (lent_in z s₀) (locals_in p l)) (h.least z p) (omega arith)),
      (h.lent, λ z p. emptied_done mode (dead mode bytes (locals_in p l)) (n - i) i (lent_in z s) (emptied mode (dead mode bytes (locals_in p l)) n 0 (lent_in z s₀)) (h.reclaimed z p) (omega arith)),
    )

  module _ (h : DbFileSoFar settings bytes s₀ l i s) where
    abbrev here : ℕ → Bool
    here = live_db_file_by mode bytes s₀ l

    abbrev k : Option ℕ
    k = first_db_file settings bytes s₀ l

    -- no slot before the first one is left
    all_passed : looked_at n k - i ≡ 0 → (z : Memory) (p : Process) → lent_in z s ≡ emptied mode (dead mode bytes (locals_in p l)) (looked_at n k) 0 (lent_in z s₀)
    all_passed x z p = emptied_done mode (dead mode bytes (locals_in p l)) (looked_at n k - i) i (lent_in z s) (emptied mode (dead mode bytes (locals_in p l)) (looked_at n k) 0 (lent_in z s₀)) (h.reclaimed z p) x

    module _ (lt : i < n) (cell : i < length s.reader_frames.now) (s' : SharedSlots) (r : Option ℕ) (e : Told mode bytes s l i r × SlotsBecome (λ m p. emptied_if mode (dead mode bytes p m i) i m) s l s') where
      -- the test of slot i, by the slots as they were
      here_before : is_db_file r ≡ here i
      here_before = db_before mode bytes s l i cell r e.0 s₀ h.same

      pub db_file_turn : is_db_file r ≡ false → DbFileSoFar settings bytes s₀ l (i + 1) s'
      db_file_turn x =
          let next = lowest_next here (n - i) i k h.search (n - (i + 1)) (omega arith) (sym here_before ∙ x) in
          let q = looked_bound here n (n - (i + 1)) (i + 1) k next (omega arith) in
          record {
            lent = lent_then s₀ s s' h.lent e.1.0;
            same = same_next mode i s s' bytes l s₀ h.same e.1;
            search = next;
            reclaimed = λ z p. emptied_next mode (dead mode bytes (locals_in p l)) (looked_at n k - i) i (lent_in z s) (emptied mode (dead mode bytes (locals_in p l)) (looked_at n k) 0 (lent_in z s₀)) (h.reclaimed z p) (looked_at n k - (i + 1)) (omega arith) (lent_in z s') (e.1.1 z p);
          }

      pub db_file_found : is_db_file r ≡ true → DbFileOf settings bytes s₀ l true s'
      unfolding DbFileOf emptied
      db_file_found x =
          let found = lowest_here here (n - i) i k h.search (omega arith) (sym here_before ∙ x) in
          let alive = both_left (live_by mode bytes s l i) (eqb (get_or s.reader_frames.now i unused) 0) (sym (db_now mode bytes s l i cell r e.0) ∙ x) in
          let gone = live_not_dead (skipped_cell mode (get_or s.reader_frames.now i unused) (get_or s.reader_owners.now i 0)) (not (eqb (get_or l i 0) 0)) (granted bytes i) alive in
          let none_left : looked_at n k - i ≡ 0 = rw (← found) (omega arith) in
          (rw (← found), (lent_then s₀ s s' h.lent e.1.0, λ z p. (e.1.1 z p ∙ rw gone) ∙ all_passed none_left z p))

    pub db_file_end : i ≡ n → DbFileOf settings bytes s₀ l false s
    unfolding DbFileOf emptied
    db_file_end x =
        let none = lowest_done here (n - i) i k h.search (omega arith) in
        let none_left : looked_at n k - i ≡ 0 = rw (← none) (omega arith) in
        (rw (← none), (h.lent, λ z p. all_passed none_left z p))
