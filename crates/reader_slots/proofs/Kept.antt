-- Slots that are left alone while others are emptied or taken: no store changes a cell of theirs. Assumes nothing.
use mathlib.Core.Path.{◌≡◌, refl, sym, ◌∙◌}
use mathlib.Core.Bool.{Bool, true, false}
use mathlib.Core.List.{List, [], ◌∷◌, ◌++◌}
use mathlib.Core.Logic.{inl, inr}
use Prim.Native.Nat.{ℕ, zero, suc, ◌+◌, ◌/◌, ◌%◌, ◌<◌, ◌≤◌}
use native.Mathlib.Nat.{eq-or-lt_of_le}
use native.Mathlib.Decide.{ℕ_discrete, dec_le}
use native.Mathlib.Omega.{arith}
use lib.ListN.{length, get_or, set, take, length-set}
use lib.Seq.{get_or-set_same, get_or-set_other, set_out}
use Rattle.wal_types.specs.declared.SharedWalOwnershipMode.{SharedWalOwnershipMode}
use Rattle.wal_types.specs.declared.SharedWalOwnershipMode.TheVariants.{LinuxOfd, ProcessScopedFcntl}
use Rattle.wal_types.specs.Settings.{unused}
use Rattle.wal_types.specs.Memory.{Memory, bit_at, slot_bit, Store, to_reader_frame, to_reader_owner, put}
use Rattle.wal_types.specs.Store.{apply, when}
use Rattle.word_bits.specs.Bit.{set_bit, clear_bit}
use Rattle.word_bits.proofs.Bits.{set_same, set_other, clear_other}
use Rattle.reader_slots.specs.Slots.{free_bit, take_bit, take_slot, empty_slot, empty_slots}
use Rattle.reader_slots.specs.Inner.{emptied_if}
use Rattle.wal_types.proofs.Stores.{apply_append}

-- slot j's cells are the same in two memories
pub record SlotSame (j : ℕ) (m m' : Memory) : Type 0 where
  pub frame_same : (d : ℕ) → get_or m'.reader_frames j d ≡ get_or m.reader_frames j d
  pub owner_same : (d : ℕ) → get_or m'.reader_owners j d ≡ get_or m.reader_owners j d
  pub bit_same : slot_bit m'.bitmap j ≡ slot_bit m.bitmap j

pub slot_same : (j : ℕ) (m : Memory) → SlotSame j m m
slot_same j m = record { frame_same = λ d. refl; owner_same = λ d. refl; bit_same = refl }

pub slot_same_then : (j : ℕ) (m m' m'' : Memory) → SlotSame j m m' → SlotSame j m' m'' → SlotSame j m m''
slot_same_then j m m' m'' a b =
    record {
      frame_same = λ d. b.frame_same d ∙ a.frame_same d;
      owner_same = λ d. b.owner_same d ∙ a.owner_same d;
      bit_same = b.bit_same ∙ a.bit_same;
    }

-- another slot's bit, after a word is stored in which only slot i's bit differs
other_bit : (b : List ℕ) (i j v : ℕ) → ((k : ℕ) → (k ≡ i % 64 → ⊥) → bit_at v k ≡ bit_at (get_or b (i / 64) 0) k) → (j ≡ i → ⊥) → slot_bit (set b (i / 64) v) j ≡ slot_bit b j
other_bit b i j v same f = go (ℕ_discrete (j / 64) (i / 64)) (dec_le (suc (i / 64)) (length b))
  where
    go : Dec (j / 64 ≡ i / 64) → Dec (i / 64 < length b) → slot_bit (set b (i / 64) v) j ≡ slot_bit b j
    go (yes e) (yes l) = rw (e, get_or-set_same b (i / 64) v 0 l) (same (j % 64) (λ q. f (omega arith)))
    go (yes e) (no g) = rw (set_out b (i / 64) v (omega arith))
    go (no g) d = rw (get_or-set_other b (i / 64) (j / 64) v 0 g)

-- one store to a cell of slot i
frame_aside : (i j v : ℕ) (m : Memory) → (j ≡ i → ⊥) → SlotSame j m (put (to_reader_frame i v) m)
frame_aside i j v m f = record { frame_same = λ d. get_or-set_other m.reader_frames i j v d f; owner_same = λ d. refl; bit_same = refl }

owner_aside : (i j v : ℕ) (m : Memory) → (j ≡ i → ⊥) → SlotSame j m (put (to_reader_owner i v) m)
owner_aside i j v m f = record { frame_same = λ d. refl; owner_same = λ d. get_or-set_other m.reader_owners i j v d f; bit_same = refl }

freed_aside : (i j : ℕ) (m : Memory) → (j ≡ i → ⊥) → SlotSame j m (apply (free_bit i m) m)
freed_aside i j m f =
    record {
      frame_same = λ d. refl;
      owner_same = λ d. refl;
      bit_same = other_bit m.bitmap i j (set_bit (get_or m.bitmap (i / 64) 0) (i % 64)) (λ k g. set_other (i % 64) k (get_or m.bitmap (i / 64) 0) g) f;
    }

cleared_aside : (i j : ℕ) (m : Memory) → (j ≡ i → ⊥) → SlotSame j m (apply (take_bit i m) m)
cleared_aside i j m f =
    record {
      frame_same = λ d. refl;
      owner_same = λ d. refl;
      bit_same = other_bit m.bitmap i j (clear_bit (get_or m.bitmap (i / 64) 0) (i % 64)) (λ k g. clear_other (i % 64) k (get_or m.bitmap (i / 64) 0) g) f;
    }

-- No store of the list changes slot j's cells. Each is looked at in the memory that it finds, since a word of the bitmap has
-- the bits of other slots too.
abbrev pub Aside : ℕ → Memory → List Store → Type 0
Aside j m [] = Unit {0}
Aside j m (s ∷ rest) = SlotSame j m (put s m) × Aside j (put s m) rest

-- so slot j is the same after all of them,
pub aside_same : (j : ℕ) (m : Memory) (l : List Store) → Aside j m l → SlotSame j m (apply l m)
aside_same j m [] a = slot_same j m
aside_same j m (s ∷ rest) a = slot_same_then j m (put s m) (apply rest (put s m)) a.0 (aside_same j (put s m) rest a.1)

-- and every first part of the list is aside too
pub aside_first : (j k : ℕ) (m : Memory) (l : List Store) → Aside j m l → Aside j m (take k l)
aside_first j zero m l a = tt
aside_first j (suc k) m [] a = tt
aside_first j (suc k) m (s ∷ rest) a = (a.0, aside_first j k (put s m) rest a.1)

pub aside_then : (j : ℕ) (m : Memory) (l l' : List Store) → Aside j m l → Aside j (apply l m) l' → Aside j m (l ++ l')
aside_then j m [] l' a b = b
aside_then j m (s ∷ rest) l' a b = (a.0, aside_then j (put s m) rest l' a.1 b)

-- another slot is emptied, or taken
pub emptied_aside : (mode : SharedWalOwnershipMode) (i j : ℕ) (m : Memory) → (j ≡ i → ⊥) → Aside j m (empty_slot mode i m)
emptied_aside LinuxOfd i j m f = (frame_aside i j unused _ f, (owner_aside i j 0 _ f, (freed_aside i j _ f, tt)))
emptied_aside ProcessScopedFcntl i j m f = (owner_aside i j 0 _ f, (frame_aside i j unused _ f, (freed_aside i j _ f, tt)))

pub emptied_other : (mode : SharedWalOwnershipMode) (i j : ℕ) (m : Memory) → (j ≡ i → ⊥) → SlotSame j m (apply (empty_slot mode i m) m)
emptied_other mode i j m f = aside_same j m (empty_slot mode i m) (emptied_aside mode i j m f)

pub taken_aside : (i j owner mark : ℕ) (m : Memory) → (j ≡ i → ⊥) → Aside j m (take_slot i owner mark m)
taken_aside i j owner mark m f = (cleared_aside i j _ f, (owner_aside i j owner _ f, (frame_aside i j mark _ f, tt)))

-- another slot than i, whether slot i is emptied or not
turn_aside : (mode : SharedWalOwnershipMode) (t : Bool) (i j : ℕ) (m : Memory) → (j ≡ i → ⊥) → Aside j m (when t (empty_slot mode i) m)
turn_aside mode true i j m f = emptied_aside mode i j m f
turn_aside mode false i j m f = tt

pub other_turn : (mode : SharedWalOwnershipMode) (t : Bool) (i j : ℕ) (m : Memory) → (j ≡ i → ⊥) → SlotSame j m (emptied_if mode t i m)
other_turn mode t i j m f = aside_same j m (when t (empty_slot mode i) m) (turn_aside mode t i j m f)

-- a pass from slot i on leaves the slots before it
pub passed_aside : (mode : SharedWalOwnershipMode) (test : Memory → ℕ → Bool) (left i j : ℕ) (m : Memory) → j < i → Aside j m (empty_slots mode test left i m)
unfolding empty_slots
passed_aside mode test zero i j m l = tt
passed_aside mode test (suc left) i j m l =
    let x = emptied_if mode (test m i) i m in
    aside_then j m (when (test m i) (empty_slot mode i) m) (empty_slots mode test left (i + 1) x) (turn_aside mode (test m i) i j m (λ e. omega arith)) (passed_aside mode test left (i + 1) j x (omega arith))

pub passed_keeps : (mode : SharedWalOwnershipMode) (test : Memory → ℕ → Bool) (left i j : ℕ) (m : Memory) → j < i → SlotSame j m (apply (empty_slots mode test left i m) m)
passed_keeps mode test left i j m l = aside_same j m (empty_slots mode test left i m) (passed_aside mode test left i j m l)

-- a slot that is emptied is free
pub freed_bit : (mode : SharedWalOwnershipMode) (i : ℕ) (m : Memory) → i / 64 < length m.bitmap → slot_bit (apply (empty_slot mode i m) m).bitmap i ≡ 1
freed_bit LinuxOfd i m l = rw (get_or-set_same m.bitmap (i / 64) (set_bit (get_or m.bitmap (i / 64) 0) (i % 64)) 0 l) (set_same (i % 64) (get_or m.bitmap (i / 64) 0))
freed_bit ProcessScopedFcntl i m l = rw (get_or-set_same m.bitmap (i / 64) (set_bit (get_or m.bitmap (i / 64) 0) (i % 64)) 0 l) (set_same (i % 64) (get_or m.bitmap (i / 64) 0))

-- whether slot i is emptied or not, the bitmap has as many words as before
words_kept : (mode : SharedWalOwnershipMode) (t : Bool) (i : ℕ) (m : Memory) → length (emptied_if mode t i m).bitmap ≡ length m.bitmap
words_kept LinuxOfd true i m = simp length-set
words_kept ProcessScopedFcntl true i m = simp length-set
words_kept mode false i m = refl

impossible : ◌≡◌ {A = Bool} true false → ⊥
impossible e = cc

-- A pass whose test of slot j goes by that slot's cells alone treats the slot by the cells that it has before the pass.
module _ (mode : SharedWalOwnershipMode) (test : Memory → ℕ → Bool) (j : ℕ) (by_cells : (m m' : Memory) → SlotSame j m m' → test m' j ≡ test m j) where
  -- not picked: it is left alone
  over_turn : (t : Bool) (i : ℕ) (m : Memory) → test m i ≡ t → test m j ≡ false → Aside j m (when t (empty_slot mode i) m)
  over_turn true i m e f = emptied_aside mode i j m (λ q. impossible (sym e ∙ rw (← q) f))
  over_turn false i m e f = tt

  pub over_aside : (left i : ℕ) (m : Memory) → test m j ≡ false → Aside j m (empty_slots mode test left i m)
  unfolding empty_slots
  over_aside zero i m f = tt
  over_aside (suc left) i m f =
      let x = emptied_if mode (test m i) i m in
      let first = when (test m i) (empty_slot mode i) m in
      let a = over_turn (test m i) i m refl f in
      aside_then j m first (empty_slots mode test left (i + 1) x) a (over_aside left (i + 1) x (by_cells m x (aside_same j m first a) ∙ f))

  -- picked: it is free afterwards
  picked_turn : (t : Bool) (left : ℕ) (m : Memory) → t ≡ true → j / 64 < length m.bitmap → slot_bit (apply (empty_slots mode test left (j + 1) (emptied_if mode t j m)) (emptied_if mode t j m)).bitmap j ≡ 1
  picked_turn true left m e w = (passed_keeps mode test left (j + 1) j (apply (empty_slot mode j m) m) (omega arith)).bit_same ∙ freed_bit mode j m w
  picked_turn false left m e w = absurd (impossible (sym e))

  pub picked_free : (left i : ℕ) (m : Memory) → i ≤ j → j < i + left → test m j ≡ true → j / 64 < length m.bitmap → slot_bit (apply (empty_slots mode test left i m) m).bitmap j ≡ 1
  unfolding empty_slots
  picked_free zero i m a b e w = absurd (omega arith)
  picked_free (suc left) i m a b e w =
      let x = emptied_if mode (test m i) i m in
      rw (apply_append (when (test m i) (empty_slot mode i) m) (empty_slots mode test left (i + 1) x) m)
      (elim (eq-or-lt_of_le a) [
        | inl q ↦ rw q (picked_turn (test m j) left m e w)
        | inr q ↦ picked_free left (i + 1) x (omega arith) (omega arith) (by_cells m x (other_turn mode (test m i) i j m (λ r. omega arith)) ∙ e) (let z = words_kept mode (test m i) i m in omega arith)
      ])

-- a slot that the test never picks is left alone
pub never_aside : (mode : SharedWalOwnershipMode) (test : Memory → ℕ → Bool) (j : ℕ) → ((x : Memory) → test x j ≡ false) → (left i : ℕ) (m : Memory) → Aside j m (empty_slots mode test left i m)
never_aside mode test j never left i m = over_aside mode test j (λ x x' s. never x' ∙ sym (never x)) left i m (never m)
