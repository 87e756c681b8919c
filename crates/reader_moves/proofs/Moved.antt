-- What update_reader and unregister_reader do to one slot, and that other slots keep their cells. Assumes nothing.
use mathlib.Core.Path.{◌≡◌, refl, sym, ap, ◌∙◌, subst}
use mathlib.Core.Bool.{true, false, ◌||◌}
use Prim.Native.Nat.{ℕ, ◌/◌, ◌%◌, ◌<◌}
use native.Mathlib.Decide.{ℕ_discrete}
use native.Mathlib.Omega.{arith}
use lib.Dec.{eqb, ltb}
use lib.ListN.{length, get_or}
use lib.Seq.{get_or-set_same, get_or-set_other}
use borrow.Author.Tests.{leb-false, ltb-false, eqb-true, eqb-false, not-false}
use Rattle.wal_types.specs.declared.SharedWalOwnershipMode.{SharedWalOwnershipMode}
use Rattle.wal_types.specs.declared.SharedWalOwnershipMode.TheVariants.{LinuxOfd, ProcessScopedFcntl}
use Rattle.wal_types.specs.Settings.{unused}
use Rattle.wal_types.specs.Memory.{Memory, Process, slot_bit, to_reader_frame}
use Rattle.wal_types.specs.Store.{apply, one}
use Rattle.wal_types.specs.Refusal.{lowest}
use Rattle.wal_types.specs.Call.{ok, refused, slot_taken, Done, after, does, done}
use Rattle.wal_types.proofs.Refusals.{call_refused, call_accepted}
use Rattle.word_bits.specs.Bit.{set_bit}
use Rattle.word_bits.proofs.Bits.{set_same}
use Rattle.reader_slots.specs.Slots.{short_slots, is_in_registry, held, with_local, empty_slot}
use Rattle.reader_moves.specs.Update.{update_tests, update_reader, release_tests, releases_slot, unregister_reader}
use Rattle.reader_slots.proofs.Calls.{NoneApplies, none_applies, neither_true, Enough, enough_by}
use Rattle.reader_slots.proofs.Kept.{SlotSame, slot_same, emptied_other}

-- unregister_reader
module _ (n : ℕ) (mode : SharedWalOwnershipMode) (slot owner : ℕ) (m : Memory) (p : Process) where
  abbrev released : Done
  released = after (unregister_reader n mode slot owner) m p

  abbrev release_number : ℕ
  release_number = lowest (release_tests n mode slot owner m p)

  pub release_refused : (release_number ≡ 0 → ⊥) → released ≡ done (refused release_number) m p
  unfolding unregister_reader
  release_refused x = call_refused (release_tests n mode slot owner) (releases_slot mode slot) m p release_number refl x

  pub release_accepted : release_number ≡ 0 → released ≡ done ok (apply (empty_slot mode slot m) m) (with_local p slot 0)
  unfolding unregister_reader
  release_accepted x = call_accepted (release_tests n mode slot owner) (releases_slot mode slot) m p x

  abbrev Others : ℕ → Done → Type 0
  Others j d = SlotSame j m d.memory × (get_or d.process.local_readers j 0 ≡ get_or p.local_readers j 0)

  -- other slots keep their cells and their local owners
  pub release_others : (j : ℕ) → (j ≡ slot → ⊥) → Others j released
  release_others j f = go (ℕ_discrete release_number 0)
    where
      go : Dec (release_number ≡ 0) → Others j released
      go (yes x) = subst (Others j) (sym (release_accepted x)) (emptied_other mode slot j m f, get_or-set_other p.local_readers slot j 0 0 f)
      go (no g) = subst (Others j) (sym (release_refused g)) (slot_same j m, refl)

  passes : release_number ≡ 0 → NoneApplies (release_tests n mode slot owner m p)
  passes x = none_applies (release_tests n mode slot owner m p) x

  release_room : release_number ≡ 0 → Enough n (length m.bitmap) (length m.reader_frames) (length m.reader_owners) (length p.local_readers)
  release_room x =
      let long = neither_true (short_slots n m p) (ltb (length p.registry) n) (passes x).1.0 in
      enough_by n (length m.bitmap) (length m.reader_frames) (length m.reader_owners) (length p.local_readers) (passes x).0 long.0

  -- What is so of a slot that is released: before it, and in the memory m' and the process p' after it.
  pub record FreedSlot (m' : Memory) (p' : Process) : Type 0 where
    pub below : slot < n
    pub was_held : held p slot ≡ true
    pub not_shared : is_in_registry n p.registry slot ≡ false
    pub frame_is : get_or m'.reader_frames slot unused ≡ unused
    pub owner_is : get_or m'.reader_owners slot 0 ≡ 0
    pub bit_is : slot_bit m'.bitmap slot ≡ 1
    pub local_is : get_or p'.local_readers slot 0 ≡ 0

  freed : release_number ≡ 0 → FreedSlot (apply (empty_slot mode slot m) m) (with_local p slot 0)
  freed x = go mode
    where
      small : slot < n
      small = leb-false n slot (passes x).1.1.0

      word : slot / 64 < length m.bitmap
      word = omega (arith, small, release_room x)

      bit : slot_bit (apply (empty_slot LinuxOfd slot m) m).bitmap slot ≡ 1
      bit = rw (get_or-set_same m.bitmap (slot / 64) (set_bit (get_or m.bitmap (slot / 64) 0) (slot % 64)) 0 word) (set_same (slot % 64) (get_or m.bitmap (slot / 64) 0))

      at : (md : SharedWalOwnershipMode) → apply (empty_slot md slot m) m ≡ apply (empty_slot LinuxOfd slot m) m
      at LinuxOfd = refl
      at ProcessScopedFcntl = refl

      go : (md : SharedWalOwnershipMode) → FreedSlot (apply (empty_slot md slot m) m) (with_local p slot 0)
      go md =
          rw (at md)
          (record {
            below = small;
            was_held = not-false (held p slot) (passes x).1.1.1.0;
            not_shared = (passes x).1.1.1.1.1.1.0;
            frame_is = get_or-set_same m.reader_frames slot unused unused (omega (arith, small, release_room x));
            owner_is = get_or-set_same m.reader_owners slot 0 0 (omega (arith, small, release_room x));
            bit_is = bit;
            local_is = get_or-set_same p.local_readers slot 0 0 (omega (arith, small, release_room x));
          })

  pub release_freed : released.answer ≡ ok → FreedSlot released.memory released.process
  release_freed e = go (ℕ_discrete release_number 0)
    where
      go : Dec (release_number ≡ 0) → FreedSlot released.memory released.process
      go (yes x) = subst (λ (d : Done). FreedSlot d.memory d.process) (sym (release_accepted x)) (freed x)
      go (no f) = let r : refused release_number ≡ ok = sym (ap (λ (d : Done). d.answer) (release_refused f)) ∙ e in cc

-- update_reader
module _ (n slot owner mark : ℕ) (m : Memory) (p : Process) where
  abbrev moved : Done
  moved = after (update_reader n slot owner mark) m p

  abbrev move_number : ℕ
  move_number = lowest (update_tests n slot owner mark m p)

  abbrev in_slot : Memory
  in_slot = apply (one (to_reader_frame slot mark) m) m

  pub move_refused : (move_number ≡ 0 → ⊥) → moved ≡ done (refused move_number) m p
  unfolding update_reader
  move_refused x = call_refused (update_tests n slot owner mark) (does (slot_taken slot owner mark) (one (to_reader_frame slot mark))) m p move_number refl x

  pub move_accepted : move_number ≡ 0 → moved ≡ done (slot_taken slot owner mark) in_slot p
  unfolding update_reader
  move_accepted x = call_accepted (update_tests n slot owner mark) (does (slot_taken slot owner mark) (one (to_reader_frame slot mark))) m p x

  -- other slots keep their cells
  pub move_others : (j : ℕ) → (j ≡ slot → ⊥) → SlotSame j m moved.memory × (moved.process ≡ p)
  move_others j f = go (ℕ_discrete move_number 0)
    where
      go : Dec (move_number ≡ 0) → SlotSame j m moved.memory × (moved.process ≡ p)
      go (yes x) = subst (λ (d : Done). SlotSame j m d.memory × (d.process ≡ p)) (sym (move_accepted x)) (record { frame_same = λ d. get_or-set_other m.reader_frames slot j mark d f; owner_same = λ d. refl; bit_same = refl }, refl)
      go (no g) = subst (λ (d : Done). SlotSame j m d.memory × (d.process ≡ p)) (sym (move_refused g)) (slot_same j m, refl)

  -- What is so of a slot that is moved: before it, and in the memory m' after it.
  pub record MovedSlot (m' : Memory) : Type 0 where
    pub below : slot < n
    pub owned : owner ≡ get_or m.reader_owners slot 0
    pub used : mark ≡ unused → ⊥
    pub not_shared : is_in_registry n p.registry slot ≡ false
    pub frame_is : get_or m'.reader_frames slot unused ≡ mark
    pub owner_same : get_or m'.reader_owners slot 0 ≡ get_or m.reader_owners slot 0
    pub bit_same : slot_bit m'.bitmap slot ≡ slot_bit m.bitmap slot

  in_moved : move_number ≡ 0 → MovedSlot in_slot
  in_moved x =
      let t = none_applies (update_tests n slot owner mark m p) x in
      let small = leb-false n slot t.1.1.0 in
      let lists = neither_true (ltb (length m.reader_frames) n || ltb (length m.reader_owners) n) (ltb (length p.registry) n) t.1.0 in
      let long = ltb-false (length m.reader_frames) n (neither_true (ltb (length m.reader_frames) n) (ltb (length m.reader_owners) n) lists.0).0 in
      record {
        below = small;
        owned = eqb-true owner (get_or m.reader_owners slot 0) (not-false (eqb owner (get_or m.reader_owners slot 0)) t.1.1.1.0);
        used = eqb-false mark unused t.1.1.1.1.1.0;
        not_shared = t.1.1.1.1.1.1.0;
        frame_is = get_or-set_same m.reader_frames slot mark unused (omega arith);
        owner_same = refl;
        bit_same = refl;
      }

  pub move_moved : (i o k : ℕ) → moved.answer ≡ slot_taken i o k → ((i ≡ slot) × ((o ≡ owner) × (k ≡ mark))) × MovedSlot moved.memory
  move_moved i o k e = go (ℕ_discrete move_number 0)
    where
      go : Dec (move_number ≡ 0) → ((i ≡ slot) × ((o ≡ owner) × (k ≡ mark))) × MovedSlot moved.memory
      go (yes x) =
          let r : slot_taken slot owner mark ≡ slot_taken i o k = sym (ap (λ (d : Done). d.answer) (move_accepted x)) ∙ e in
          ((cc, (cc, cc)), subst (λ (d : Done). MovedSlot d.memory) (sym (move_accepted x)) (in_moved x))
      go (no f) = let r : refused move_number ≡ slot_taken i o k = sym (ap (λ (d : Done). d.answer) (move_refused f)) ∙ e in cc
