-- What register_reader does to one slot: the slot that it answers was not held here and now has the mark, and a slot held
-- here before keeps its cells. Assumes nothing.
use mathlib.Core.Path.{◌≡◌, refl, sym, ap, ◌∙◌, subst}
use mathlib.Core.Bool.{Bool, true, false, not, ◌&&◌}
use mathlib.Core.List.{List}
use mathlib.Core.Logic.{inl, inr}
use Prim.Native.Nat.{ℕ, zero, suc, ◌+◌, ◌/◌, ◌%◌, ◌<◌}
use native.Mathlib.Decide.{ℕ_discrete}
use native.Mathlib.Omega.{arith}
use lib.ListN.{length, get_or, length-set}
use lib.Seq.{get_or-set_same, get_or-set_other}
use borrow.Author.Tests.{eqb-false}
use Rattle.wal_types.specs.declared.SharedWalOwnershipMode.{SharedWalOwnershipMode}
use Rattle.wal_types.specs.declared.SharedWalOwnershipMode.TheVariants.{LinuxOfd, ProcessScopedFcntl}
use Rattle.wal_types.specs.Settings.{unused}
use Rattle.wal_types.specs.Memory.{Memory, Process, slot_bit}
use Rattle.wal_types.specs.Store.{apply, when}
use Rattle.wal_types.specs.Refusal.{lowest}
use Rattle.wal_types.specs.Call.{refused, slot_taken, accepted_or, Done, after, done}
use Rattle.word_bits.specs.Bit.{clear_bit}
use Rattle.word_bits.proofs.Bits.{clear_same}
use Rattle.std.specs.Prelude.{Option, Some, None}
use Rattle.reader_slots.specs.Slots.{held, is_free, granted, take_slot, empty_slot, empty_slots}
use Rattle.reader_register.specs.Register.{available, take_found, slot_answer, hold_found, first_slot, second_slot, chosen_slot, reclaim_all, reclaimable, reclaim_unless, registers, register_tests, register_reader}
use Rattle.reader_slots.specs.Inner.{emptied_if}
use Rattle.wal_types.proofs.Stores.{apply_append}
use Rattle.wal_types.proofs.Refusals.{call_refused, call_accepted}
use Rattle.reader_slots.proofs.Calls.{none_applies, Enough, enough_by}
use Rattle.reader_slots.proofs.Lowest.{found_below, lowest_at}
use Rattle.reader_slots.proofs.Kept.{SlotSame, Aside, aside_same, aside_then, taken_aside}
use Rattle.reader_register.proofs.Registered.{from_either}
use Rattle.reader_register.proofs.Kept.{reclaim_aside}

-- the lists have as many cells as before
pub record SameLengths (m m' : Memory) : Type 0 where
  pub words_same : length m'.bitmap ≡ length m.bitmap
  pub frames_same : length m'.reader_frames ≡ length m.reader_frames
  pub owners_same : length m'.reader_owners ≡ length m.reader_owners

emptied_lengths : (mode : SharedWalOwnershipMode) (t : Bool) (i : ℕ) (m : Memory) → SameLengths m (emptied_if mode t i m)
emptied_lengths LinuxOfd true i m = record { words_same = simp length-set; frames_same = simp length-set; owners_same = simp length-set }
emptied_lengths ProcessScopedFcntl true i m = record { words_same = simp length-set; frames_same = simp length-set; owners_same = simp length-set }
emptied_lengths mode false i m = record { words_same = refl; frames_same = refl; owners_same = refl }

pub all_emptied_lengths : (mode : SharedWalOwnershipMode) (test : Memory → ℕ → Bool) (left i : ℕ) (m : Memory) → SameLengths m (apply (empty_slots mode test left i m) m)
unfolding empty_slots
all_emptied_lengths mode test zero i m = record { words_same = refl; frames_same = refl; owners_same = refl }
all_emptied_lengths mode test (suc left) i m =
    let x = emptied_if mode (test m i) i m in
    let a = emptied_lengths mode (test m i) i m in
    let b = all_emptied_lengths mode test left (i + 1) x in
    rw (apply_append (when (test m i) (empty_slot mode i) m) (empty_slots mode test left (i + 1) x) m)
    (record { words_same = b.words_same ∙ a.words_same; frames_same = b.frames_same ∙ a.frames_same; owners_same = b.owners_same ∙ a.owners_same })

-- a slot that one attempt finds is not held here
unheld : (h f g : Bool) → (not h && f && g) ≡ true → h ≡ false
unheld true f g e = sym e
unheld false f g e = refl

found_unheld : (n : ℕ) (bytes : List ℕ) (p : Process) (m : Memory) (i : ℕ) → first_slot n bytes m p ≡ Some i → (held p i ≡ false) × (i < n)
found_unheld n bytes p m i e = (unheld (held p i) (is_free m i) (granted bytes i) (lowest_at (available bytes p m) n 0 i e).0, found_below (available bytes p m) n i e)

-- What is so of the slot i that register_reader has answered: before it, in the memory m' after it, and in the process p'.
pub record TookSlot (n owner mark i : ℕ) (p : Process) (m' : Memory) (p' : Process) : Type 0 where
  pub below : i < n
  pub was_free : held p i ≡ false
  pub owned : owner ≡ 0 → ⊥
  pub used : mark ≡ unused → ⊥
  pub frame_is : get_or m'.reader_frames i unused ≡ mark
  pub owner_is : get_or m'.reader_owners i 0 ≡ owner
  pub bit_is : slot_bit m'.bitmap i ≡ 0
  pub local_is : get_or p'.local_readers i 0 ≡ owner

module _ (n : ℕ) (mode : SharedWalOwnershipMode) (owner mark : ℕ) (bytes : List ℕ) (m : Memory) (p : Process) where
  -- the number of the refusal, 0 for none
  abbrev pub number_given : ℕ
  number_given = lowest (register_tests n owner mark bytes m p)

  abbrev chosen : Option ℕ
  chosen = chosen_slot n mode bytes m p

  abbrev reclaimed : Memory
  reclaimed = apply (reclaim_unless n mode bytes p (first_slot n bytes m p) m) m

  pub register_refused : (number_given ≡ 0 → ⊥) → after (register_reader n mode owner mark bytes) m p ≡ done (refused number_given) m p
  unfolding register_reader
  register_refused x = call_refused (register_tests n owner mark bytes) (registers n mode owner mark bytes) m p number_given refl x

  pub register_accepted : number_given ≡ 0 → after (register_reader n mode owner mark bytes) m p ≡ done (slot_answer owner mark chosen) (apply (take_found owner mark chosen reclaimed) reclaimed) (hold_found owner p chosen)
  unfolding register_reader
  register_accepted x =
      call_accepted (register_tests n owner mark bytes) (registers n mode owner mark bytes) m p x
      ∙ rw (apply_append (reclaim_unless n mode bytes p (first_slot n bytes m p) m) (take_found owner mark chosen reclaimed) m)

  -- the slot chosen is not held here
  pub chosen_unheld : (i : ℕ) → chosen ≡ Some i → (held p i ≡ false) × (i < n)
  chosen_unheld i e =
      elim (from_either (first_slot n bytes m p) (second_slot n mode bytes m p) i e) [
        | inl q ↦ found_unheld n bytes p m i q
        | inr q ↦ found_unheld n bytes p (apply (reclaim_all n mode bytes p m) m) i q.1
      ]

  reclaimed_lengths : SameLengths m reclaimed
  reclaimed_lengths = go (first_slot n bytes m p)
    where
      go : (s : Option ℕ) → SameLengths m (apply (reclaim_unless n mode bytes p s m) m)
      go (Some i) = record { words_same = refl; frames_same = refl; owners_same = refl }
      go None = all_emptied_lengths mode (reclaimable mode bytes p) n 0 m

  -- an accepted call has its cells
  pub room : number_given ≡ 0 → Enough n (length m.bitmap) (length m.reader_frames) (length m.reader_owners) (length p.local_readers)
  room x =
      let t = none_applies (register_tests n owner mark bytes m p) x in
      enough_by n (length m.bitmap) (length m.reader_frames) (length m.reader_owners) (length p.local_readers) t.0 t.1.0

  -- a slot that is answered
  took : (x : number_given ≡ 0) (i : ℕ) → chosen ≡ Some i → TookSlot n owner mark i p (apply (take_slot i owner mark reclaimed) reclaimed) (hold_found owner p (Some i))
  took x i e =
      let a = chosen_unheld i e in
      let b = room x in
      let q = reclaimed_lengths in
      let t = (none_applies (register_tests n owner mark bytes m p) x).1.1 in
      let w : i / 64 < length reclaimed.bitmap = omega (arith, a.1) in
      record {
        below = a.1;
        was_free = a.0;
        owned = eqb-false owner 0 t.0;
        used = eqb-false mark unused t.1.0;
        frame_is = get_or-set_same reclaimed.reader_frames i mark unused (omega (arith, a.1));
        owner_is = get_or-set_same reclaimed.reader_owners i owner 0 (omega (arith, a.1));
        bit_is = rw (get_or-set_same reclaimed.bitmap (i / 64) (clear_bit (get_or reclaimed.bitmap (i / 64) 0) (i % 64)) 0 w) (clear_same (i % 64) (get_or reclaimed.bitmap (i / 64) 0));
        local_is = get_or-set_same p.local_readers i owner 0 (omega (arith, a.1));
      }

  -- the call, by its slot
  abbrev with_slot : Option ℕ → Done
  with_slot s = done (slot_answer owner mark s) (apply (take_found owner mark s reclaimed) reclaimed) (hold_found owner p s)

  abbrev result : Done
  result = after (register_reader n mode owner mark bytes) m p

  -- register_reader answers a slot that was not held here, with the owner and the mark that were given, and the slot has them
  pub register_took : (i o k : ℕ) → result.answer ≡ slot_taken i o k → (o ≡ owner) × ((k ≡ mark) × TookSlot n owner mark i p result.memory result.process)
  register_took i o k e = go (ℕ_discrete number_given 0)
    where
      found : (x : number_given ≡ 0) (s : Option ℕ) → chosen ≡ s → slot_answer owner mark s ≡ slot_taken i o k → (o ≡ owner) × ((k ≡ mark) × TookSlot n owner mark i p result.memory result.process)
      found x (Some j) c f =
          let ij : j ≡ i = cc in let oo : o ≡ owner = cc in let kk : k ≡ mark = cc in
          (oo, (kk, subst (λ (d : Done). TookSlot n owner mark i p d.memory d.process) (sym (register_accepted x ∙ ap with_slot (c ∙ ap Some ij))) (took x i (c ∙ ap Some ij))))
      found x None c f = cc

      go : Dec (number_given ≡ 0) → (o ≡ owner) × ((k ≡ mark) × TookSlot n owner mark i p result.memory result.process)
      go (yes x) = found x chosen refl (sym (ap (λ (d : Done). d.answer) (register_accepted x)) ∙ e)
      go (no f) = let r : refused number_given ≡ slot_taken i o k = sym (ap (λ (d : Done). d.answer) (register_refused f)) ∙ e in cc

  -- a slot held here is left alone by every store, and keeps its local owner
  module _ (j : ℕ) (here : held p j ≡ true) where
    differs : (i : ℕ) → chosen ≡ Some i → j ≡ i → ⊥
    differs i c q = let z : ◌≡◌ {A = Bool} true false = sym here ∙ ap (held p) q ∙ (chosen_unheld i c).0 in cc

    reclaim_leaves : (s : Option ℕ) → Aside j m (reclaim_unless n mode bytes p s m)
    reclaim_leaves (Some i) = tt
    reclaim_leaves None = reclaim_aside n mode bytes p j here m

    take_leaves : (s : Option ℕ) → chosen ≡ s → Aside j reclaimed (take_found owner mark s reclaimed)
    take_leaves (Some i) c = taken_aside i j owner mark reclaimed (differs i c)
    take_leaves None c = tt

    pub register_aside : Aside j m (register_reader n mode owner mark bytes m p).stores
    unfolding register_reader
    register_aside = go number_given
      where
        go : (k : ℕ) → Aside j m (accepted_or k p (registers n mode owner mark bytes m p)).stores
        go zero = aside_then j m (reclaim_unless n mode bytes p (first_slot n bytes m p) m) (take_found owner mark chosen reclaimed) (reclaim_leaves (first_slot n bytes m p)) (take_leaves chosen refl)
        go (suc k) = tt

    local_kept : get_or result.process.local_readers j 0 ≡ get_or p.local_readers j 0
    unfolding register_reader
    local_kept = go number_given
      where
        held_still : (s : Option ℕ) → chosen ≡ s → get_or (hold_found owner p s).local_readers j 0 ≡ get_or p.local_readers j 0
        held_still (Some i) c = get_or-set_other p.local_readers i j owner 0 (differs i c)
        held_still None c = refl

        go : (k : ℕ) → get_or (accepted_or k p (registers n mode owner mark bytes m p)).process.local_readers j 0 ≡ get_or p.local_readers j 0
        go zero = held_still chosen refl
        go (suc k) = refl

    pub register_keeps : SlotSame j m result.memory × (get_or result.process.local_readers j 0 ≡ get_or p.local_readers j 0)
    register_keeps = (aside_same j m (register_reader n mode owner mark bytes m p).stores register_aside, local_kept)
