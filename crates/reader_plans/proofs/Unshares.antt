-- A shared release: its refusals, a holder less, and the last holder. Assumes nothing.
use mathlib.Core.Path.{◌≡◌, refl, sym, ap, ◌∙◌}
use mathlib.Core.Bool.{Bool, true, false, not, ◌&&◌, cond}
use mathlib.Core.List.{List, [], ◌∷◌, ◌++◌}
use Prim.Native.Nat.{ℕ, ◌<◌, ◌≤◌, min}
use native.Mathlib.Omega.{arith}
use lib.Dec.{eqb, leb}
use lib.ListN.{length, get_or, set}
use borrow.Author.Tests.{le-leb, lt-leb}
use Rattle.std.specs.Prelude.{Option, Some, Result, Ok, Err}
use Rattle.wal_types.specs.declared.SharedReadMark.{SharedReadMark}
use Rattle.wal_types.specs.declared.SharedWalOwnershipMode.{SharedWalOwnershipMode}
use Rattle.wal_types.specs.declared.settings.ReaderSettings.{ReaderSettings}
use Rattle.wal_types.specs.declared.settings.Reader.{Reader}
use Rattle.wal_types.specs.Memory.{Memory, Process, no_mark}
use Rattle.wal_types.specs.declared.refusal.Refusal.{Refusal}
use Rattle.wal_types.specs.Refusal.{Test, ◌if◌, lowest, number}
use Rattle.wal_types.specs.declared.refusal.Refusal.TheVariants.{SlotNumber, NotHeld, OtherOwner, NoSuchMark}
use Rattle.wal_types.specs.Call.{after}
use Rattle.wal_types.proofs.Refusals.{call_turned_away, call_accepted}
use Rattle.reader_slots.specs.declared.slots.SharedSlots.{SharedSlots}
use Rattle.reader_slots.specs.Slots.{held, empty_slot}
use Rattle.reader_slots.specs.Inner.{lent_in, SlotsStored, registry_tests, registry_refusal, reader_tests, reader_refusal}
use Rattle.reader_slots.proofs.Calls.{none_applies, lowest_first, lowest_rest, registry_enough}
use Rattle.reader_slots.proofs.Lent.{same_lent}
use Rattle.reader_moves.specs.Update.{not_owner}
use Rattle.reader_marks.specs.declared.MarkInRegistry.{MarkInRegistry}
use Rattle.reader_marks.specs.declared.Seen.{Seen}
use Rattle.reader_marks.specs.declared.Seen.TheVariants.{Shared, New}
use Rattle.reader_marks.specs.Registry.{record_of}
use Rattle.reader_marks.specs.InnerScan.{seen_of}
use Rattle.reader_shared.specs.Shared.{registered, last_holder, unshare_tests, unshares, unregister_reader_for_snapshot, unshare_answer, registry_in}
use Rattle.reader_shared.specs.declared.shared.Release.{Release}
use Rattle.reader_shared.specs.Inner.{release_of, is_known, frees, unshare_change, last_tests as slot_tests, mark_tests, unshare_refusal, PlanCall, PlanCarried}
use Rattle.reader_shared.proofs.Refused.{known_by, frees_by}
use Rattle.reader_plans.proofs.Seen.{placed, unplaced}

not_not : (a : Bool) → not a ≡ false → a ≡ true
not_not true e = refl
not_not false e = sym e

both : (a c : Bool) → (a && c) ≡ true → (a ≡ true) × (c ≡ true)
both true c e = (refl, e)
both false c e = cc

module _ (settings : ReaderSettings) (reader : Reader) (slot : ℕ) (slots : SharedSlots) (l : List ℕ) (told : MarkInRegistry) where
  abbrev n : ℕ
  n = settings.n

  abbrev mode : SharedWalOwnershipMode
  mode = settings.mode

  abbrev owner : ℕ
  owner = reader.owner.0

  abbrev mark : ℕ
  mark = reader.mark

  abbrev records : ℕ
  records = told.records

  abbrev seen : Seen
  seen = told.seen

  -- the call does what the plan says
  abbrev Means : SharedSlots → List ℕ → Result ℕ Refusal → Type 0
  Means slots' l' plan = PlanCall n mark told (unregister_reader_for_snapshot n mode mark slot owner) slots l (unshare_answer plan) slots' l' (unshare_change plan)

  -- a registry that fits what was seen
  abbrev Fits : List SharedReadMark → Type 0
  Fits r = (seen ≡ seen_of (min n (length r)) r mark) × (records ≡ length r)

  abbrev memory : Memory → Memory
  memory z = lent_in z slots

  abbrev process : Process → List SharedReadMark → Process
  process p r = registry_in p l r

  abbrev number_given : Memory → Process → List SharedReadMark → ℕ
  number_given z p r = lowest (unshare_tests n mode mark slot owner (memory z) (process p r))

  -- the tests from 7 on
  abbrev last_tests : Memory → Process → List SharedReadMark → List Test
  last_tests z p r =
      (NotHeld if (registered slot owner (process p r) (record_of n r mark) && last_holder (process p r) (record_of n r mark) && not (held (process p r) slot)))
      ∷ (OtherOwner if (registered slot owner (process p r) (record_of n r mark) && last_holder (process p r) (record_of n r mark) && not_owner mode slot owner (memory z) (process p r)))
      ∷ mark_tests owner mark (registered slot owner (process p r) (record_of n r mark))

  refused_as : (k : Refusal) → ((z : Memory) (p : Process) (r : List SharedReadMark) → Fits r → number_given z p r ≡ number k) → Means slots l (Err k)
  unfolding PlanCarried unregister_reader_for_snapshot
  refused_as k h =
      (same_lent slots, λ r s q z p. call_turned_away (unshare_tests n mode mark slot owner) (λ m p. unshares mode slot (record_of n p.registry mark) m p) (memory z) (process p r) k (sym (h z p r (s, q))))

  pub unshare_early : (k : Refusal) → number k ≡ registry_refusal n slots l records → Means slots l (Err k)
  unfolding registry_refusal
  unshare_early k e = refused_as k (λ z p r s. lowest_first (registry_tests n slots l (length r)) ((SlotNumber if leb n slot) ∷ last_tests z p r) k (rw (← s.1) e))

  module _ (fine : 0 ≡ registry_refusal n slots l records) where
    by_later : (z : Memory) (p : Process) (r : List SharedReadMark) → records ≡ length r → number_given z p r ≡ cond (leb n slot) 6 (lowest (last_tests z p r))
    unfolding registry_refusal
    by_later z p r q = lowest_rest (registry_tests n slots l (length r)) ((SlotNumber if leb n slot) ∷ last_tests z p r) (rw (← q) fine)

    pub unshare_slot_number : n ≤ slot → Means slots l (Err SlotNumber)
    unshare_slot_number x = refused_as SlotNumber (λ z p r s. by_later z p r s.1 ∙ rw (le-leb n slot x))

    module _ (small : slot < n) where
      by_last : (z : Memory) (p : Process) (r : List SharedReadMark) → records ≡ length r → number_given z p r ≡ lowest (last_tests z p r)
      by_last z p r q = by_later z p r q ∙ rw (lt-leb n slot small)

      long : (r : List SharedReadMark) → records ≡ length r → n ≤ length r
      long r q = let enough = (registry_enough n slots l records fine).1 in omega arith

      -- the mark has no record
      module _ (free : Option ℕ) (new : seen ≡ New free) where
        absent : (z : Memory) (p : Process) (r : List SharedReadMark) → Fits r → number_given z p r ≡ lowest (mark_tests owner mark false)
        absent z p r s = by_last z p r s.1 ∙ rw (unplaced n r mark (long r s.1) free (sym new ∙ s.0)).0

        pub unshare_reader : (k : Refusal) → number k ≡ reader_refusal owner mark → Means slots l (Err k)
        unfolding reader_refusal
        unshare_reader k e = refused_as k (λ z p r s. absent z p r s ∙ lowest_first (reader_tests owner mark) ((NoSuchMark if true) ∷ []) k e)

        pub unshare_absent : 0 ≡ reader_refusal owner mark → Means slots l (Err NoSuchMark)
        unfolding reader_refusal
        unshare_absent e = refused_as NoSuchMark (λ z p r s. absent z p r s ∙ lowest_rest (reader_tests owner mark) ((NoSuchMark if true) ∷ []) e)

      -- it has one
      module _ (place : ℕ) (item : SharedReadMark) (found : seen ≡ Shared place item) (release : Release) (release_is : release ≡ release_of item slot owner) where
        known_is : is_known release ≡ (eqb item.slot slot && eqb item.owner.0 owner)
        known_is = ap is_known release_is ∙ known_by (eqb item.slot slot && eqb item.owner.0 owner) (eqb item.holders 1)

        frees_is : frees release ≡ (is_known release && eqb item.holders 1)
        frees_is = ap frees release_is ∙ (frees_by (eqb item.slot slot && eqb item.owner.0 owner) (eqb item.holders 1) ∙ ap (λ a. a && eqb item.holders 1) (sym known_is))

        here : (r : List SharedReadMark) → Fits r → (record_of n r mark ≡ Some place) × (get_or r place no_mark ≡ item)
        here r s = placed n r mark (long r s.1) place item (sym found ∙ s.0)

        its_number : (z : Memory) (p : Process) (r : List SharedReadMark) → Fits r → number_given z p r ≡ unshare_refusal mode (is_known release) (frees release) owner mark (get_or slots.reader_owners.now slot 0) (get_or l slot 0)
        unfolding unshare_refusal
        its_number z p r s = by_last z p r s.1 ∙ rw ((here r s).0, (here r s).1, ← known_is, ← frees_is)

        pub unshare_refused : (k : Refusal) → number k ≡ unshare_refusal mode (is_known release) (frees release) owner mark (get_or slots.reader_owners.now slot 0) (get_or l slot 0) → Means slots l (Err k)
        unshare_refused k e = refused_as k (λ z p r s. its_number z p r s ∙ sym e)

        module _ (pass : 0 ≡ unshare_refusal mode (is_known release) (frees release) owner mark (get_or slots.reader_owners.now slot 0) (get_or l slot 0)) where
          made : (z : Memory) (p : Process) (r : List SharedReadMark) → Fits r →
              after (unregister_reader_for_snapshot n mode mark slot owner) (memory z) (process p r) ≡ after (unshares mode slot (Some place)) (memory z) (process p r)
          unfolding unregister_reader_for_snapshot
          made z p r s =
              call_accepted (unshare_tests n mode mark slot owner) (λ m p. unshares mode slot (record_of n p.registry mark) m p) (memory z) (process p r) (its_number z p r s ∙ sym pass)
              ∙ rw (here r s).0

          -- the mark, the slot and the owner are registered
          told_known : is_known release ≡ true
          unfolding unshare_refusal
          told_known = not_not (is_known release) (none_applies (slot_tests mode (frees release) owner (get_or slots.reader_owners.now slot 0) (get_or l slot 0) ++ mark_tests owner mark (is_known release)) (sym pass)).1.1.1.1.0

          pub unshare_left : frees release ≡ false → Means slots l (Ok place)
          unfolding PlanCarried
          unshare_left x =
              let more : eqb item.holders 1 ≡ false = rw told_known at (sym frees_is ∙ x) in
              (same_lent slots, λ r s q z p. made z p r (s, q) ∙ rw ((here r (s, q)).1, more))

          pub unshare_last : frees release ≡ true → (slots' : SharedSlots) (l' : List ℕ) → SlotsStored (empty_slot mode slot) slots slots' × (l' ≡ set l slot 0) → Means slots' l' (Ok place)
          unfolding PlanCarried
          unshare_last x slots' l' w =
              let only = (both (is_known release) (eqb item.holders 1) (sym frees_is ∙ x)).1 in
              (w.0.0, λ r s q z p. made z p r (s, q) ∙ rw ((here r (s, q)).1, only, w.0.1 z, w.1))
