-- register_reader by its refusals and by the slot that it has chosen. Assumes nothing.
use mathlib.Core.Path.{◌≡◌, refl, sym, ◌∙◌}
use mathlib.Core.List.{List, [], ◌∷◌, ◌++◌}
use mathlib.Core.Logic.{◌⊎◌, inl, inr}
use Prim.Native.Nat.{ℕ, ◌+◌, ◌-◌, ◌/◌, ◌<◌, ◌≤◌}
use native.Mathlib.Omega.{arith}
use lib.ListN.{length, set}
use Rattle.wal_types.specs.Memory.{Memory, Process}
use Rattle.wal_types.specs.Store.{apply}
use Rattle.wal_types.specs.declared.refusal.Refusal.{Refusal}
use Rattle.wal_types.specs.Refusal.{Test, number}
use Rattle.wal_types.proofs.Refusals.{call_turned_away, call_accepted}
use Rattle.wal_types.proofs.Stores.{apply_append}
use Rattle.wal_types.specs.Call.{Answer, refused, slot_taken, none}
use Rattle.std.specs.Prelude.{Option, Some, None}
use Rattle.wal_types.specs.declared.settings.ReaderSettings.{ReaderSettings}
use Rattle.wal_types.specs.declared.settings.Reader.{Reader}
use Rattle.reader_slots.specs.declared.slots.SharedSlots.{SharedSlots}
use Rattle.reader_slots.specs.Slots.{take_slot, empty_slots, locals_in, ReaderCall}
use Rattle.std.specs.Option.{option_or}
use Rattle.reader_slots.specs.Search.{lowest_slot}
use Rattle.reader_slots.specs.Inner.{HoldSlots, lent_in, SlotsStored, SlotsBecome, LentCall, slots_tests, slots_refusal, reader_tests, reader_refusal, card_tests, card_refusal, available_by}
use Rattle.reader_slots.proofs.Calls.{none_applies, lowest_first, lowest_rest, enough_lent}
use Rattle.reader_slots.proofs.Card.{card_length}
use Rattle.reader_slots.proofs.Lent.{same_lent, lent_then}
use Rattle.reader_slots.proofs.Lowest.{found_below}
use Rattle.reader_register.specs.Register.{second_slot, chosen_slot, reclaimable, reclaim_all, registers, register_tests, register_reader}
use Rattle.reader_register.specs.Inner.{stale_by, chosen_by, register_refusal, RegistersCall}
use Rattle.reader_register.proofs.Second.{second_is_stale, nothing_reclaimed, reclaimed_from}

-- the number of the refusal, by those of the refusals 1 and 2, of 9 and 10, and of the card's
module _ (n : ℕ) (s : SharedSlots) (l : List ℕ) (reader : Reader) (bytes : List ℕ) where
  abbrev first_tests : List Test
  first_tests = slots_tests n s l

  abbrev next_tests : List Test
  next_tests = reader_tests reader.owner.0 reader.mark

  pub number_early : (r : Refusal) → number r ≡ slots_refusal n s l → number r ≡ register_refusal n s l reader bytes
  unfolding register_refusal slots_refusal
  number_early r e = sym (lowest_first first_tests (next_tests ++ card_tests n bytes) r e)

  module _ (fine : 0 ≡ slots_refusal n s l) where
    pub number_reader : (r : Refusal) → number r ≡ reader_refusal reader.owner.0 reader.mark → number r ≡ register_refusal n s l reader bytes
    unfolding register_refusal slots_refusal reader_refusal
    number_reader r e =
        sym (lowest_rest first_tests (next_tests ++ card_tests n bytes) fine ∙ lowest_first next_tests (card_tests n bytes) r e)

    pub number_card : 0 ≡ reader_refusal reader.owner.0 reader.mark → (k : ℕ) → k ≡ card_refusal n bytes → k ≡ register_refusal n s l reader bytes
    unfolding register_refusal slots_refusal reader_refusal card_refusal
    number_card z k e =
        e ∙ sym (lowest_rest first_tests (next_tests ++ card_tests n bytes) fine ∙ lowest_rest next_tests (card_tests n bytes) z)

pub checked : (n : ℕ) (s : SharedSlots) (l : List ℕ) (reader : Reader) (bytes : List ℕ) → 0 ≡ register_refusal n s l reader bytes → HoldSlots n s (l ∷ bytes ∷ [])
unfolding register_refusal
checked n s l reader bytes e =
    let t = none_applies (slots_tests n s l ++ reader_tests reader.owner.0 reader.mark ++ card_tests n bytes) (sym e) in
    let h = enough_lent n s l t.0 t.1.0 in
    let c = card_length n bytes t.1.1.1.1.0 in
    (h.most, h.words_enough, (h.frames_enough, (h.owners_enough, (h.locals_enough, (omega arith, tt)))))

-- a slot found by one attempt or the other, and by neither
pub from_either : (c d : Option ℕ) (i : ℕ) → option_or c d ≡ Some i → (c ≡ Some i) ⊎ ((c ≡ None) × (d ≡ Some i))
from_either (Some j) d i e = inl e
from_either None d i e = inr (refl, e)

pub from_neither : (c d : Option ℕ) → option_or c d ≡ None → (c ≡ None) × (d ≡ None)
from_neither (Some i) d e = cc
from_neither None d e = (refl, e)

-- the slot that is chosen by the lists
module _ (settings : ReaderSettings) (bytes : List ℕ) (s : SharedSlots) (l : List ℕ) where
  abbrev free_slot : Option ℕ
  free_slot = lowest_slot (available_by s.bitmap.now l bytes) settings.n 0

  abbrev stale_slot : Option ℕ
  stale_slot = lowest_slot (stale_by settings.mode bytes s.bitmap.now s.reader_owners.now l) settings.n 0

  pub chosen_below : (i : ℕ) → chosen_by settings bytes s.bitmap.now s.reader_owners.now l ≡ Some i → i < settings.n
  unfolding chosen_by
  chosen_below i e =
      elim (from_either free_slot stale_slot i e) [
        | inl q ↦ found_below (available_by s.bitmap.now l bytes) settings.n i q
        | inr q ↦ found_below (stale_by settings.mode bytes s.bitmap.now s.reader_owners.now l) settings.n i q.1
      ]

  -- it is the slot that the definition chooses after the reclaim
  pub chosen_is : (settings.n + 63) / 64 ≤ length s.bitmap.now → (z : Memory) (p : Process) → chosen_slot settings.n settings.mode bytes (lent_in z s) (locals_in p l) ≡ chosen_by settings bytes s.bitmap.now s.reader_owners.now l
  unfolding chosen_by
  chosen_is words z p = go free_slot refl
    where
      go : (c : Option ℕ) → free_slot ≡ c → option_or c (second_slot settings.n settings.mode bytes (lent_in z s) (locals_in p l)) ≡ option_or c stale_slot
      go (Some i) e = refl
      go None e = second_is_stale settings.n settings.mode bytes (lent_in z s) (locals_in p l) (λ j a. omega arith) e

module _ (settings : ReaderSettings) (reader : Reader) (bytes : List ℕ) (s : SharedSlots) (l : List ℕ) where
  abbrev owner : ℕ
  owner = reader.owner.0

  abbrev Means : Answer → SharedSlots → List ℕ → Type 0
  Means a s' l' = RegistersCall settings reader bytes s l a s' l'

  abbrev Takes : ℕ → SharedSlots → SharedSlots → List ℕ → Type 0
  Takes i s₁ s' l' = SlotsStored (take_slot i owner reader.mark) s₁ s' × (l' ≡ set l i owner)

  -- slot i can be taken at once
  pub takes_free : (i : ℕ) → lowest_slot (available_by s.bitmap.now l bytes) settings.n 0 ≡ Some i → (s' : SharedSlots) (l' : List ℕ) → Takes i s s' l' → Means (slot_taken i owner reader.mark) s' l'
  unfolding RegistersCall
  takes_free i e s' l' g = (g.0.0, λ z p. rw (e, g.0.1 z, g.1))

  module _ (words : (settings.n + 63) / 64 ≤ length s.bitmap.now) where
    chosen : (c : Option ℕ) → chosen_by settings bytes s.bitmap.now s.reader_owners.now l ≡ c → (z : Memory) (p : Process) → chosen_slot settings.n settings.mode bytes (lent_in z s) (locals_in p l) ≡ c
    chosen c e z p = chosen_is settings bytes s l words z p ∙ e

    -- none can, and slot i is the lowest stale one
    pub takes_stale : lowest_slot (available_by s.bitmap.now l bytes) settings.n 0 ≡ None → (i : ℕ) → lowest_slot (stale_by settings.mode bytes s.bitmap.now s.reader_owners.now l) settings.n 0 ≡ Some i → (s₁ : SharedSlots) → SlotsBecome (λ m p. apply (empty_slots settings.mode (reclaimable settings.mode bytes p) (settings.n - i) i m) m) s l s₁ → (s' : SharedSlots) (l' : List ℕ) → Takes i s₁ s' l' → Means (slot_taken i owner reader.mark) s' l'
    unfolding RegistersCall chosen_by
    takes_stale none_free i e s₁ r s' l' g = (lent_then s s₁ s' r.0 g.0.0, stored)
      where
        stored : ReaderCall (registers settings.n settings.mode owner reader.mark bytes) s.bitmap.now s.reader_frames.now s.reader_owners.now l (slot_taken i owner reader.mark) s'.bitmap.now s'.reader_frames.now s'.reader_owners.now l'
        stored z p =
            let m = lent_in z s in let q = locals_in p l in
            let x = apply (reclaim_all settings.n settings.mode bytes q m) m in
            rw (chosen (Some i) (rw (none_free, e)) z p, none_free, apply_append (reclaim_all settings.n settings.mode bytes q m) (take_slot i owner reader.mark x) m, reclaimed_from settings.n settings.mode bytes m q i e, ← r.1 z p, g.0.1 z, g.1)

    -- no slot is chosen
    pub takes_none : lowest_slot (available_by s.bitmap.now l bytes) settings.n 0 ≡ None → lowest_slot (stale_by settings.mode bytes s.bitmap.now s.reader_owners.now l) settings.n 0 ≡ None → Means none s l
    unfolding RegistersCall chosen_by
    takes_none none_free none_stale =
        (same_lent s, λ z p. rw (chosen None (rw (none_free, none_stale)) z p, none_free, nothing_reclaimed settings.n settings.mode bytes (lent_in z s) (locals_in p l) none_stale))

  -- the whole call, by its refusals
  abbrev Call : Answer → SharedSlots → List ℕ → Type 0
  Call a s' l' = LentCall (register_reader settings.n settings.mode owner reader.mark bytes) s l a s' l'

  pub register_refused : (r : Refusal) → number r ≡ register_refusal settings.n s l reader bytes → Call (refused (number r)) s l
  unfolding register_reader register_refusal
  register_refused r e = (same_lent s, λ z p. call_turned_away (register_tests settings.n owner reader.mark bytes) (registers settings.n settings.mode owner reader.mark bytes) (lent_in z s) (locals_in p l) r e)

  pub register_accepted : 0 ≡ register_refusal settings.n s l reader bytes → (a : Answer) (s' : SharedSlots) (l' : List ℕ) → RegistersCall settings reader bytes s l a s' l' → Call a s' l'
  unfolding register_reader register_refusal RegistersCall
  register_accepted e a s' l' g =
      (g.0, λ z p. call_accepted (register_tests settings.n owner reader.mark bytes) (registers settings.n settings.mode owner reader.mark bytes) (lent_in z s) (locals_in p l) (sym e) ∙ g.1 z p)
