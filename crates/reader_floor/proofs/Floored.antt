-- The refusals of the calls that probe slots, and the calls that are accepted. Assumes nothing.
use mathlib.Core.Path.{◌≡◌, sym, ◌∙◌}
use mathlib.Core.Bool.{Bool}
use mathlib.Core.List.{List, [], ◌∷◌}
use Prim.Native.Nat.{ℕ}
use lib.ListN.{length}
use native.Mathlib.Omega.{arith}
use Rattle.std.specs.Prelude.{Option, is_some}
use Rattle.wal_types.specs.declared.SharedWalOwnershipMode.{SharedWalOwnershipMode}
use Rattle.wal_types.specs.declared.refusal.Refusal.{Refusal}
use Rattle.wal_types.specs.Memory.{Memory, Process}
use Rattle.wal_types.specs.Refusal.{Test, number, lowest}
use Rattle.wal_types.specs.Call.{Call, refused, flag, does, unless, after}
use Rattle.wal_types.proofs.Refusals.{number_not_zero, call_refused, call_turned_away, call_accepted}
use Rattle.reader_slots.specs.Slots.{locals_in}
use Rattle.wal_types.specs.declared.settings.ReaderSettings.{ReaderSettings}
use Rattle.reader_slots.specs.declared.slots.SharedSlots.{SharedSlots}
use Rattle.reader_slots.specs.Search.{lowest_slot}
use Rattle.reader_probe.specs.declared.live.LiveMarks.{LiveMarks}
use Rattle.reader_floor.specs.Floor.{probe_tests, floor_of, floor_answer, db_file_reader_of, reclaim_dead, min_active_reader_frame, has_active_db_file_reader}
use Rattle.reader_probe.specs.Live.{looked_at}
use Rattle.reader_slots.specs.Inner.{HoldSlots, lent_in, LentCall, length_tests, length_refusal, slots_tests, slots_refusal}
use Rattle.reader_probe.specs.Inner.{db_file_by, probe_tests_by, probe_refusal}
use Rattle.reader_floor.specs.Inner.{tests_by, lists_refusal, all_slots_refusal, MarksOf, DbFileOf}
use Rattle.reader_slots.proofs.Calls.{enough, lowest_first, lowest_rest, none_applies, enough_lent}
use Rattle.reader_slots.proofs.Lent.{same_lent}
use Rattle.reader_slots.proofs.Card.{card_length}
use Rattle.reader_probe.proofs.Looked.{probes_pass, first_by_probes}

-- The refusal of a call that probes every slot, by the refusals 1 and 2 and then by 14 and 15.
module _ (settings : ReaderSettings) (bytes : List ℕ) (words : ℕ) (f o l : List ℕ) where
  abbrev by_length : List Test
  by_length = length_tests settings.n words (length f) (length o) (length l)

  abbrev by_probe : List Test
  by_probe = probe_tests_by settings bytes f o l settings.n

  pub early_number : (r : Refusal) → number r ≡ length_refusal settings.n words (length f) (length o) (length l) → number r ≡ lists_refusal settings bytes words f o l
  unfolding length_refusal lists_refusal
  early_number r e = sym (lowest_first by_length by_probe r e)

  pub late_number : 0 ≡ length_refusal settings.n words (length f) (length o) (length l) → (q : ℕ) → q ≡ probe_refusal settings bytes f o l settings.n → q ≡ lists_refusal settings bytes words f o l
  unfolding length_refusal probe_refusal lists_refusal
  late_number fine q e = e ∙ sym (lowest_rest by_length by_probe fine)

-- The same of a call on lent slots that probes so many of them.
module _ (settings : ReaderSettings) (bytes : List ℕ) (s : SharedSlots) (l : List ℕ) where
  abbrev n : ℕ
  n = settings.n

  abbrev mode : SharedWalOwnershipMode
  mode = settings.mode

  early : (looked : ℕ) (r : Refusal) → number r ≡ slots_refusal n s l → lowest (tests_by settings bytes s l looked) ≡ number r
  unfolding slots_refusal
  early looked r e = lowest_first (slots_tests n s l) (probe_tests_by settings bytes s.reader_frames.now s.reader_owners.now l looked) r e

  module _ (fine : 0 ≡ slots_refusal n s l) where
    late : (looked : ℕ) → lowest (tests_by settings bytes s l looked) ≡ probe_refusal settings bytes s.reader_frames.now s.reader_owners.now l looked
    unfolding slots_refusal probe_refusal
    late looked = lowest_rest (slots_tests n s l) (probe_tests_by settings bytes s.reader_frames.now s.reader_owners.now l looked) fine

  -- what a call that probes every slot may count on where none of them applies
  pub passed : 0 ≡ all_slots_refusal settings bytes s l → HoldSlots n s (l ∷ bytes ∷ [])
  unfolding all_slots_refusal
  passed e =
      let t = none_applies (tests_by settings bytes s l n) (sym e) in
      let h = enough_lent n s l t.0 t.1.0 in
      let c = card_length n bytes t.1.1.0 in
      omega arith

  -- A call that probes every slot.
  module _ (call : Call) where
    pub probing_refused : (r : Refusal) → number r ≡ all_slots_refusal settings bytes s l → LentCall (unless (probe_tests n mode bytes n) call) s l (refused (number r)) s l
    unfolding all_slots_refusal
    probing_refused r e = (same_lent s, λ z p. call_turned_away (probe_tests n mode bytes n) call (lent_in z s) (locals_in p l) r e)

    pub probing_accepted : 0 ≡ all_slots_refusal settings bytes s l → (z : Memory) (p : Process) → after (unless (probe_tests n mode bytes n) call) (lent_in z s) (locals_in p l) ≡ after call (lent_in z s) (locals_in p l)
    unfolding all_slots_refusal
    probing_accepted e z p = call_accepted (probe_tests n mode bytes n) call (lent_in z s) (locals_in p l) (sym e)

  -- min_active_reader_frame
  abbrev floor_call : Call
  floor_call m p = does (floor_answer (floor_of n mode bytes m p)) (reclaim_dead mode bytes p n) m p

  pub floor_refused : (r : Refusal) → number r ≡ all_slots_refusal settings bytes s l → LentCall (min_active_reader_frame n mode bytes) s l (refused (number r)) s l
  unfolding min_active_reader_frame
  floor_refused r e = probing_refused floor_call r e

  pub floor_accepted : 0 ≡ all_slots_refusal settings bytes s l → (r : LiveMarks) (s' : SharedSlots) → MarksOf settings bytes s l r s' → LentCall (min_active_reader_frame n mode bytes) s l (floor_answer r.floor) s' l
  unfolding min_active_reader_frame MarksOf
  floor_accepted e r s' h = (h.2.0, λ z p. probing_accepted floor_call e z p ∙ rw (h.1 z p, ← h.2.1 z p))

  -- has_active_db_file_reader, which probes no further than the first slot that it finds
  abbrev first : Option ℕ
  first = lowest_slot (db_file_by mode bytes s.reader_frames.now s.reader_owners.now l) n 0

  abbrev db_file_tests : Memory → Process → List Test
  db_file_tests m p = probe_tests n mode bytes (looked_at n (db_file_reader_of n mode bytes m p)) m p

  abbrev db_file_call : Call
  db_file_call m p = does (flag (is_some (db_file_reader_of n mode bytes m p))) (reclaim_dead mode bytes p (looked_at n (db_file_reader_of n mode bytes m p))) m p

  db_file_refused : (r : Refusal) → lowest (tests_by settings bytes s l (looked_at n first)) ≡ number r → LentCall (has_active_db_file_reader n mode bytes) s l (refused (number r)) s l
  unfolding has_active_db_file_reader
  db_file_refused r e = (same_lent s, λ z p. call_refused db_file_tests db_file_call (lent_in z s) (locals_in p l) (number r) e (number_not_zero r))

  pub db_file_early : (r : Refusal) → number r ≡ slots_refusal n s l → LentCall (has_active_db_file_reader n mode bytes) s l (refused (number r)) s l
  db_file_early r e = db_file_refused r (early (looked_at n first) r e)

  module _ (fine : 0 ≡ slots_refusal n s l) where
    pub db_file_late : (r : Refusal) → number r ≡ probe_refusal settings bytes s.reader_frames.now s.reader_owners.now l (looked_at n first) → LentCall (has_active_db_file_reader n mode bytes) s l (refused (number r)) s l
    db_file_late r e = db_file_refused r (late fine (looked_at n first) ∙ sym e)

    module _ (free : 0 ≡ probe_refusal settings bytes s.reader_frames.now s.reader_owners.now l (looked_at n first)) where
      pub db_file_room : HoldSlots n s (l ∷ bytes ∷ [])
      db_file_room =
          let h = enough n s l fine in
          let c = (probes_pass settings bytes s.reader_frames.now s.reader_owners.now l (looked_at n first) free).0 in
          omega arith

      pub db_file_told : (r : Bool) (s' : SharedSlots) → DbFileOf settings bytes s l r s' → LentCall (has_active_db_file_reader n mode bytes) s l (flag r) s' l
      unfolding has_active_db_file_reader DbFileOf
      db_file_told r s' h = (
        h.1.0,
        λ z p. call_accepted db_file_tests db_file_call (lent_in z s) (locals_in p l) (late fine (looked_at n first) ∙ sym free)
            ∙ rw (first_by_probes settings bytes s l (probes_pass settings bytes s.reader_frames.now s.reader_owners.now l (looked_at n first) free).1, h.0, ← h.1.1 z p),
      )
