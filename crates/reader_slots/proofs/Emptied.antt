-- The stores that empty slots, as lists: the memory after them. Assumes nothing.
use mathlib.Core.Path.{◌≡◌, refl, sym, ◌∙◌}
use mathlib.Core.Bool.{Bool, false}
use mathlib.Core.List.{List, []}
use mathlib.Core.Logic.{inl, inr}
use Prim.Native.Nat.{ℕ, zero, suc, ◌+◌, ◌/◌, ◌%◌, ◌<◌, ◌≤◌}
use native.Mathlib.Nat.{eq-or-lt_of_le}
use native.Mathlib.Omega.{arith}
use lib.ListN.{get_or, set}
use Rattle.wal_types.specs.declared.SharedWalOwnershipMode.{SharedWalOwnershipMode}
use Rattle.wal_types.specs.declared.SharedWalOwnershipMode.TheVariants.{LinuxOfd, ProcessScopedFcntl}
use Rattle.wal_types.specs.Settings.{unused}
use Rattle.wal_types.specs.Memory.{Memory}
use Rattle.wal_types.specs.Store.{apply, when}
use Rattle.word_bits.specs.Bit.{set_bit, clear_bit}
use Rattle.reader_slots.specs.Slots.{take_slot, empty_slot, empty_slots, slots_in}
use Rattle.reader_slots.specs.Inner.{emptied_if}
use Rattle.wal_types.proofs.Stores.{apply_append}

-- the bitmap with slot i's bit 1, and 0
abbrev pub bit_freed : List ℕ → ℕ → List ℕ
bit_freed b i = set b (i / 64) (set_bit (get_or b (i / 64) 0) (i % 64))

abbrev pub bit_taken : List ℕ → ℕ → List ℕ
bit_taken b i = set b (i / 64) (clear_bit (get_or b (i / 64) 0) (i % 64))

-- a slot emptied: the same in both modes
pub emptied_slot : (mode : SharedWalOwnershipMode) (z : Memory) (b f o : List ℕ) (i : ℕ) → apply (empty_slot mode i (slots_in z b f o)) (slots_in z b f o) ≡ slots_in z (bit_freed b i) (set f i unused) (set o i 0)
emptied_slot LinuxOfd z b f o i = refl
emptied_slot ProcessScopedFcntl z b f o i = refl

-- a slot taken
pub taken_slot : (z : Memory) (b f o : List ℕ) (i owner mark : ℕ) → apply (take_slot i owner mark (slots_in z b f o)) (slots_in z b f o) ≡ slots_in z (bit_taken b i) (set f i mark) (set o i owner)
taken_slot z b f o i owner mark = refl

-- the memory after all slots that the test picks are emptied, of so many from this one on
unfoldable pub emptied : SharedWalOwnershipMode → (Memory → ℕ → Bool) → ℕ → ℕ → Memory → Memory
emptied mode test left i m = apply (empty_slots mode test left i m) m

module _ (mode : SharedWalOwnershipMode) (test : Memory → ℕ → Bool) (left i : ℕ) (m whole : Memory) (so_far : emptied mode test left i m ≡ whole) where
  -- no slot is left
  pub emptied_done : left ≡ 0 → m ≡ whole
  unfolding emptied empty_slots
  emptied_done e = rw e at so_far

  -- one slot more
  pub emptied_next : (less : ℕ) → left ≡ suc less → (m' : Memory) → m' ≡ emptied_if mode (test m i) i m → emptied mode test less (i + 1) m' ≡ whole
  unfolding emptied empty_slots
  emptied_next less e m' f =
      rw f (sym (apply_append (when (test m i) (empty_slot mode i) m) (empty_slots mode test less (i + 1) (emptied_if mode (test m i) i m)) m) ∙ (rw e at so_far))

pub emptied_whole : (mode : SharedWalOwnershipMode) (test : Memory → ℕ → Bool) (left i : ℕ) (m : Memory) → emptied mode test left i m ≡ apply (empty_slots mode test left i m) m
unfolding emptied
emptied_whole mode test left i m = refl

-- a pass that picks no slot stores nothing
pub stores_nothing : (mode : SharedWalOwnershipMode) (test : Memory → ℕ → Bool) (left i : ℕ) (m : Memory) → ((j : ℕ) → i ≤ j → j < i + left → test m j ≡ false) → empty_slots mode test left i m ≡ []
unfolding empty_slots
stores_nothing mode test zero i m h = refl
stores_nothing mode test (suc left) i m h = rw (h i (omega arith) (omega arith)) (stores_nothing mode test left (i + 1) m (λ j a b. h j (omega arith) (omega arith)))

-- a pass that picks no slot before j starts there, with so many slots left
pub starts_at : (mode : SharedWalOwnershipMode) (test : Memory → ℕ → Bool) (left i j rest : ℕ) (m : Memory) → i + left ≡ j + rest → i ≤ j → ((k : ℕ) → i ≤ k → k < j → test m k ≡ false) → empty_slots mode test left i m ≡ empty_slots mode test rest j m
unfolding empty_slots
starts_at mode test zero i j rest m e l h = let z : rest ≡ 0 = omega arith in rw z
starts_at mode test (suc left) i j rest m e l h =
    elim (eq-or-lt_of_le l) [
      | inl q ↦ (let z : rest ≡ suc left = omega arith in rw (z, ← q))
      | inr q ↦ rw (h i (omega arith) q) (starts_at mode test left (i + 1) j rest m (omega arith) (omega arith) (λ k a b. h k (omega arith) b))
    ]
