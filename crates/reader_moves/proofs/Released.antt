-- The refusals of update_reader from 9 on and of unregister_reader, and the calls that are accepted. Assumes nothing.
use mathlib.Core.Path.{◌≡◌, sym, ap, ◌∙◌, subst}
use mathlib.Core.Bool.{Bool, true, false, not, ◌&&◌, ◌||◌}
use mathlib.Core.List.{List, [], ◌∷◌, ◌++◌}
use Prim.Native.Nat.{ℕ, ◌<◌, ◌≤◌}
use native.Mathlib.Omega.{arith}
use lib.Dec.{eqb, leb}
use lib.ListN.{length, get_or, set}
use lib.Seq.{set-get_or}
use borrow.Author.Tests.{le-leb, lt-leb, le-ltb}
use Rattle.wal_types.specs.declared.SharedWalOwnershipMode.{SharedWalOwnershipMode}
use Rattle.wal_types.specs.Memory.{Memory, Process, to_reader_frame}
use Rattle.wal_types.specs.Store.{one}
use Rattle.wal_types.specs.declared.refusal.Refusal.{Refusal}
use Rattle.wal_types.specs.Refusal.{Test, ◌if◌, number, lowest}
use Rattle.wal_types.proofs.Refusals.{number_not_zero, call_refused, call_accepted}
use Rattle.wal_types.specs.declared.refusal.Refusal.TheVariants.{SlotNumber, NotHeld, OtherOwner, NoOwner, SharedSlot}
use Rattle.wal_types.specs.Call.{Call, Answer, refused, slot_taken, ok, does}
use Rattle.wal_types.specs.Settings.{is_fcntl}
use Rattle.reader_slots.specs.Slots.{is_in_registry, empty_slot, slots_in, locals_in}
use Rattle.wal_types.specs.declared.settings.ReaderSettings.{ReaderSettings}
use Rattle.reader_slots.specs.declared.slots.SharedSlots.{SharedSlots}
use Rattle.reader_slots.specs.Inner.{SlotsStored, lent_in, registry_tests, registry_refusal, reader_tests, reader_refusal}
use Rattle.reader_moves.specs.Update.{update_tests, update_reader, MoveCall, release_tests, releases_slot, unregister_reader}
use Rattle.reader_moves.specs.declared.update.SlotInRegistry.{SlotInRegistry}
use Rattle.reader_moves.specs.Inner.{LentRelease}
use Rattle.reader_slots.proofs.Calls.{lowest_first, lowest_rest}
use Rattle.reader_slots.proofs.Lent.{same_lent}

-- update_reader where no refusal below 9 applies
module _ (n slot owner mark : ℕ) (shared : Bool) (records : ℕ) (f o : List ℕ) (some : 1 ≤ n) (most : n ≤ 256) (frames : n ≤ length f) (owners : n ≤ length o) (long : n ≤ records) (small : slot < n) (same : false ≡ not (eqb owner (get_or o slot 0))) where
  abbrev Moves : Answer → List ℕ → Type 0
  Moves a f' = MoveCall n slot shared records (update_reader n slot owner mark) f o a f'

  abbrev moves : Call
  moves = does (slot_taken slot owner mark) (one (to_reader_frame slot mark))

  abbrev last_test : List Test
  last_test = (SharedSlot if shared) ∷ []

  move_number : (z : Memory) (p : Process) → is_in_registry n p.registry slot ≡ shared → length p.registry ≡ records → lowest (update_tests n slot owner mark (slots_in z z.bitmap f o) p) ≡ lowest (reader_tests owner mark ++ last_test)
  move_number z p s g = rw (s, g, le-leb 1 n some, le-leb n 256 most, le-ltb (length f) n frames, le-ltb (length o) n owners, le-ltb records n long, lt-leb n slot small, ← same)

  pub move_reader : (r : Refusal) → number r ≡ reader_refusal owner mark → Moves (refused (number r)) f
  unfolding update_reader reader_refusal
  move_reader r e z p s g = call_refused (update_tests n slot owner mark) moves (slots_in z z.bitmap f o) p (number r) (move_number z p s g ∙ lowest_first (reader_tests owner mark) last_test r e) (number_not_zero r)

  module _ (fine : 0 ≡ reader_refusal owner mark) where
    pub move_shared : shared ≡ true → Moves (refused 11) f
    unfolding update_reader reader_refusal
    move_shared y z p s g = call_refused (update_tests n slot owner mark) moves (slots_in z z.bitmap f o) p 11 (move_number z p s g ∙ lowest_rest (reader_tests owner mark) last_test fine ∙ rw y) (λ q. omega arith)

    pub move_done : shared ≡ false → Moves (slot_taken slot owner mark) (set f slot mark)
    unfolding update_reader reader_refusal
    move_done y z p s g = call_accepted (update_tests n slot owner mark) moves (slots_in z z.bitmap f o) p (move_number z p s g ∙ lowest_rest (reader_tests owner mark) last_test fine ∙ rw y)

    -- to the mark that the slot has already: nothing is stored
    pub move_stays : shared ≡ false → get_or f slot 0 ≡ mark → Moves (slot_taken slot owner mark) f
    move_stays y there = subst (Moves (slot_taken slot owner mark)) (ap (set f slot) (sym there) ∙ set-get_or f slot 0) (move_done y)

-- unregister_reader: the owner given is not the shared one, or in Fcntl not the local one
abbrev pub other : SharedWalOwnershipMode → ℕ → ℕ → List ℕ → List ℕ → Bool
other mode slot owner o l = not (eqb owner (get_or o slot 0)) || (is_fcntl mode && not (eqb owner (get_or l slot 0)))

module _ (settings : ReaderSettings) (slot owner : ℕ) (registry : SlotInRegistry) (s : SharedSlots) (l : List ℕ) where
  abbrev Means : Answer → SharedSlots → List ℕ → Type 0
  Means a s' l' = LentRelease settings.n slot registry (unregister_reader settings.n settings.mode slot owner) s l a s' l'

  -- the tests after 1 and 2
  abbrev later_tests : List Test
  later_tests =
      (SlotNumber if leb settings.n slot)
      ∷ (NotHeld if not (not (eqb (get_or l slot 0) 0)))
      ∷ (OtherOwner if other settings.mode slot owner s.reader_owners.now l)
      ∷ (NoOwner if eqb owner 0)
      ∷ (SharedSlot if registry.is_shared)
      ∷ []

  abbrev all_tests : List Test
  all_tests = registry_tests settings.n s l registry.records ++ later_tests

  by_number : (r : ℕ) → lowest all_tests ≡ r → (r ≡ 0 → ⊥) → Means (refused r) s l
  unfolding unregister_reader
  by_number r x y = (same_lent s, λ z p e g. call_refused (release_tests settings.n settings.mode slot owner) (releases_slot settings.mode slot) (lent_in z s) (locals_in p l) r (rw (e, g) x) y)

  pub release_early : (r : Refusal) → number r ≡ registry_refusal settings.n s l registry.records → Means (refused (number r)) s l
  unfolding registry_refusal
  release_early r e = by_number (number r) (lowest_first (registry_tests settings.n s l registry.records) later_tests r e) (number_not_zero r)

  module _ (fine : 0 ≡ registry_refusal settings.n s l registry.records) where
    by_later : (r : ℕ) → lowest later_tests ≡ r → lowest all_tests ≡ r
    unfolding registry_refusal
    by_later r x = lowest_rest (registry_tests settings.n s l registry.records) later_tests fine ∙ x

    pub release_slot_number : settings.n ≤ slot → Means (refused 6) s l
    release_slot_number x = by_number 6 (by_later 6 (rw (le-leb settings.n slot x))) (λ q. omega arith)

    module _ (small : slot < settings.n) where
      pub release_not_held : true ≡ eqb (get_or l slot 0) 0 → Means (refused 7) s l
      release_not_held x = by_number 7 (by_later 7 (rw (lt-leb settings.n slot small, ← x))) (λ q. omega arith)

      module _ (held_here : false ≡ eqb (get_or l slot 0) 0) where
        pub release_other_owner : true ≡ other settings.mode slot owner s.reader_owners.now l → Means (refused 8) s l
        release_other_owner x = by_number 8 (by_later 8 (rw (lt-leb settings.n slot small, ← held_here, ← x))) (λ q. omega arith)

        module _ (same : false ≡ other settings.mode slot owner s.reader_owners.now l) where
          pub release_no_owner : true ≡ eqb owner 0 → Means (refused 9) s l
          release_no_owner x =
              by_number 9 (by_later 9 (rw (lt-leb settings.n slot small, ← held_here, ← same, ← x))) (λ q. omega arith)

          module _ (owned : false ≡ eqb owner 0) where
            pub release_shared : registry.is_shared ≡ true → Means (refused 11) s l
            release_shared x =
                by_number 11 (by_later 11 (rw (lt-leb settings.n slot small, ← held_here, ← same, ← owned, x))) (λ q. omega arith)

            pub release_done : registry.is_shared ≡ false → (s' : SharedSlots) (l' : List ℕ) → SlotsStored (empty_slot settings.mode slot) s s' × (l' ≡ set l slot 0) → Means ok s' l'
            unfolding unregister_reader
            release_done x s' l' h = (
              h.0.0,
              λ z p e g. call_accepted (release_tests settings.n settings.mode slot owner) (releases_slot settings.mode slot) (lent_in z s) (locals_in p l)
                  (rw (e, g) (by_later 0 (rw (lt-leb settings.n slot small, ← held_here, ← same, ← owned, x))))
                  ∙ rw (h.0.1 z, h.1),
            )
