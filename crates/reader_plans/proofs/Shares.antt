-- A shared registration: its refusals, a mark already shared, and a new one. Assumes nothing.
use mathlib.Core.Path.{◌≡◌, refl, sym, ap, ◌∙◌}
use mathlib.Core.Bool.{Bool, true, false, not, ◌&&◌, cond}
use mathlib.Core.List.{List, [], ◌∷◌, ◌++◌}
use Prim.Native.Nat.{ℕ, ◌^◌, ◌<◌, ◌≤◌, min}
use native.Mathlib.Omega.{arith}
use lib.Dec.{leb}
use lib.ListN.{length, get_or}
use Rattle.std.specs.Prelude.{Option, Some, None, is_some, is_none, option_map, Result, Ok, Err}
use Rattle.wal_types.specs.declared.SharedReadMark.{SharedReadMark}
use Rattle.wal_types.specs.declared.SharedWalOwnershipMode.{SharedWalOwnershipMode}
use Rattle.wal_types.specs.declared.settings.ReaderSettings.{ReaderSettings}
use Rattle.wal_types.specs.declared.settings.Reader.{Reader}
use Rattle.wal_types.specs.Settings.{most_holders}
use Rattle.wal_types.specs.Memory.{Memory, Process, no_mark, blank_memory, blank_process}
use Rattle.wal_types.specs.declared.refusal.Refusal.{Refusal}
use Rattle.wal_types.specs.Refusal.{Test, ◌if◌, lowest, number, refused_number}
use Rattle.wal_types.specs.declared.refusal.Refusal.TheVariants.{RegistryFull}
use Rattle.wal_types.specs.Call.{none, Done, after, done}
use Rattle.wal_types.proofs.Refusals.{number_not_zero, call_turned_away, call_accepted}
use Rattle.reader_slots.specs.declared.slots.SharedSlots.{SharedSlots}
use Rattle.reader_slots.specs.Slots.{is_bad_card}
use Rattle.reader_slots.specs.Inner.{available_by, lent_in, card_refusal, card_tests}
use Rattle.reader_slots.specs.Search.{lowest_slot}
use Rattle.reader_slots.proofs.Calls.{none_applies, lowest_first, lowest_rest, EnoughLent}
use Rattle.reader_slots.proofs.Lent.{same_lent}
use Rattle.reader_register.specs.Register.{slot_answer, chosen_slot}
use Rattle.reader_register.specs.Inner.{stale_by, chosen_by, RegistersCall}
use Rattle.reader_register.proofs.Registered.{from_neither, chosen_below, chosen_is, takes_none}
use Rattle.reader_marks.specs.declared.MarkInRegistry.{MarkInRegistry}
use Rattle.reader_marks.specs.declared.Seen.{Seen}
use Rattle.reader_marks.specs.declared.Seen.TheVariants.{Shared, New}
use Rattle.reader_marks.specs.Registry.{record_of, empty_record}
use Rattle.reader_marks.specs.InnerScan.{seen_of}
use Rattle.reader_shared.specs.declared.shared.SharePlan.{SharePlan}
use Rattle.reader_shared.specs.Shared.{no_room, share_tests, new_record, shares, register_reader_for_snapshot, share_answer, registry_in}
use Rattle.reader_shared.specs.Inner.{shares_joined, joined_refusal, shares_published, share_change, room_refusal, four_tests, share_refusal, PlanCall, PlanCarried}
use Rattle.reader_shared.proofs.Refused.{share_room}
use Rattle.reader_plans.proofs.Seen.{placed, unplaced}

-- the slot that is told is the one chosen
same_slot : (owner mark : ℕ) (c d : Option ℕ) → slot_answer owner mark c ≡ slot_answer owner mark d → c ≡ d
same_slot owner mark (Some i) (Some j) e = let z : i ≡ j = cc in rw z
same_slot owner mark (Some i) None e = cc
same_slot owner mark None (Some j) e = cc
same_slot owner mark None None e = refl

module _ (settings : ReaderSettings) (reader : Reader) (bytes : List ℕ) (slots : SharedSlots) (l : List ℕ) (told : MarkInRegistry) where
  abbrev n : ℕ
  n = settings.n

  abbrev mode : SharedWalOwnershipMode
  mode = settings.mode

  abbrev owner : ℕ
  owner = reader.owner.0

  abbrev mark : ℕ
  mark = reader.mark

  abbrev records : ℕ
  records = told.records

  abbrev seen : Seen
  seen = told.seen

  -- the call does what the plan says
  abbrev Means : SharedSlots → List ℕ → Result (Option SharePlan) Refusal → Type 0
  Means slots' l' plan = PlanCall n mark told (register_reader_for_snapshot n mode owner mark bytes) slots l (share_answer plan) slots' l' (share_change plan)

  -- a registry that fits what was seen
  abbrev Fits : List SharedReadMark → Type 0
  Fits r = (seen ≡ seen_of (min n (length r)) r mark) × (records ≡ length r)

  -- a process and memory with these parts
  abbrev memory : Memory → Memory
  memory z = lent_in z slots

  abbrev process : Process → List SharedReadMark → Process
  process p r = registry_in p l r

  abbrev number_given : Memory → Process → List SharedReadMark → ℕ
  number_given z p r = lowest (share_tests n mode owner mark bytes (memory z) (process p r))

  -- the tests after the first four
  abbrev last_tests : Memory → Process → List SharedReadMark → List Test
  last_tests z p r = (RegistryFull if no_room n mode bytes (memory z) (process p r) (record_of n r mark)) ∷ card_tests n bytes

  refused_as : (k : Refusal) → ((z : Memory) (p : Process) (r : List SharedReadMark) → Fits r → number_given z p r ≡ number k) → Means slots l (Err k)
  unfolding PlanCarried register_reader_for_snapshot
  refused_as k h =
      (same_lent slots, λ r s q z p. call_turned_away (share_tests n mode owner mark bytes) (λ m p. shares n mode owner mark bytes (record_of n p.registry mark) m p) (memory z) (process p r) k (sym (h z p r (s, q))))

  -- refusals 1, 2, 9 and 10
  pub share_refused : (k : Refusal) → number k ≡ share_refusal n slots l records reader → Means slots l (Err k)
  unfolding share_refusal
  share_refused k e = refused_as k (λ z p r s. lowest_first (four_tests n slots l (length r) reader) (last_tests z p r) k (rw (← s.1) e))

  module _ (fine : 0 ≡ share_refusal n slots l records reader) where
    room : EnoughLent n slots l × (n ≤ records)
    room = share_room n slots l records reader fine

    later : (z : Memory) (p : Process) (r : List SharedReadMark) → records ≡ length r → number_given z p r ≡ lowest (last_tests z p r)
    unfolding share_refusal
    later z p r q = lowest_rest (four_tests n slots l (length r) reader) (last_tests z p r) (rw (← q) fine)

    -- the call that is not refused
    made : (z : Memory) (p : Process) (r : List SharedReadMark) → records ≡ length r → lowest (last_tests z p r) ≡ 0 →
        after (register_reader_for_snapshot n mode owner mark bytes) (memory z) (process p r) ≡ after (shares n mode owner mark bytes (record_of n r mark)) (memory z) (process p r)
    unfolding register_reader_for_snapshot
    made z p r q x =
        call_accepted (share_tests n mode owner mark bytes) (λ m p. shares n mode owner mark bytes (record_of n p.registry mark) m p) (memory z) (process p r) (later z p r q ∙ x)

    -- a mark already shared, in the record at this place
    module _ (place : ℕ) (item : SharedReadMark) (found : seen ≡ Shared place item) where
      here : (r : List SharedReadMark) → Fits r → (record_of n r mark ≡ Some place) × (get_or r place no_mark ≡ item)
      here r s = placed n r mark (let long = room.1 in let same = s.1 in omega arith) place item (sym found ∙ s.0)

      abbrev room_tests : List Test
      room_tests = (RegistryFull if leb most_holders item.holders) ∷ []

      its_tests : (z : Memory) (p : Process) (r : List SharedReadMark) → Fits r → lowest (last_tests z p r) ≡ lowest (room_tests ++ card_tests n bytes)
      its_tests z p r s = rw ((here r s).0, (here r s).1)

      pub joined_full : (k : Refusal) → number k ≡ room_refusal item → Means slots l (Err k)
      joined_full k e = refused_as k (λ z p r s. later z p r s.1 ∙ (its_tests z p r s ∙ lowest_first room_tests (card_tests n bytes) k e))

      module _ (fits : 0 ≡ room_refusal item) where
        pub joined_card : (k : Refusal) → number k ≡ card_refusal n bytes → Means slots l (Err k)
        unfolding card_refusal
        joined_card k e = refused_as k (λ z p r s. later z p r s.1 ∙ (its_tests z p r s ∙ (lowest_rest room_tests (card_tests n bytes) fits ∙ sym e)))

        pub joined : 0 ≡ card_refusal n bytes → Means slots l (Ok (Some (shares_joined place item mark)))
        unfolding PlanCarried card_refusal
        joined e =
            let below = (none_applies room_tests (sym fits)).0 in (
              same_lent slots,
              λ r s q z p. made z p r q (its_tests z p r (s, q) ∙ (lowest_rest room_tests (card_tests n bytes) fits ∙ sym e))
                  ∙ rw ((here r (s, q)).0, (here r (s, q)).1, below),
            )

      -- try_share_joined has answered, by what is said of the card
      module _ (card : Result Unit Refusal) (by_card : refused_number card ≡ card_refusal n bytes) where
        pub joined_refused : (k : Refusal) → number k ≡ joined_refusal item card → Means slots l (Err k)
        joined_refused k e = go (leb most_holders item.holders) refl e
          where
            go : (t : Bool) → leb most_holders item.holders ≡ t → number k ≡ cond t 13 (refused_number card) → Means slots l (Err k)
            go true x g = joined_full k (g ∙ rw x)
            go false x g = joined_card (rw x) k (g ∙ by_card)

        pub joined_taken : 0 ≡ joined_refusal item card → Means slots l (Ok (Some (shares_joined place item mark)))
        joined_taken e = go (leb most_holders item.holders) refl e
          where
            go : (t : Bool) → leb most_holders item.holders ≡ t → 0 ≡ cond t 13 (refused_number card) → Means slots l (Ok (Some (shares_joined place item mark)))
            go true x g = absurd (number_not_zero RegistryFull (sym g))
            go false x g = joined (rw x) (g ∙ by_card)

    -- a new mark
    module _ (free : Option ℕ) (new : seen ≡ New free) where
      absent : (r : List SharedReadMark) → Fits r → (record_of n r mark ≡ None) × (empty_record n r ≡ free)
      absent r s = unplaced n r mark (let long = room.1 in let same = s.1 in omega arith) free (sym new ∙ s.0)

      pub new_card : (k : Refusal) → number k ≡ card_refusal n bytes → Means slots l (Err k)
      unfolding card_refusal
      new_card k e = refused_as k (λ z p r s. later z p r s.1 ∙ rw (absent r s).0 (go (is_bad_card n bytes) (is_some (chosen_slot n mode bytes (memory z) (process p r))) (is_none (empty_record n r)) e))
        where
          go : (t u v : Bool) → number k ≡ cond t 14 0 → cond (not t && u && v) 13 (cond t 14 0) ≡ number k
          go true u v g = sym g
          go false u v g = absurd (number_not_zero k g)

      module _ (card : 0 ≡ card_refusal n bytes) where
        good : is_bad_card n bytes ≡ false
        unfolding card_refusal
        good = (none_applies (card_tests n bytes) (sym card)).0

        abbrev chosen : Option ℕ
        chosen = chosen_by settings bytes slots.bitmap.now slots.reader_owners.now l

        chosen_here : (z : Memory) (p : Process) (r : List SharedReadMark) → chosen_slot n mode bytes (memory z) (process p r) ≡ chosen
        chosen_here z p r = chosen_is settings bytes slots l room.0.words_enough z (process p r)

        -- the call does what register_checked does, and publishes the record
        module _ (taken : Option ℕ) (slots' : SharedSlots) (l' : List ℕ) (does : RegistersCall settings reader bytes slots l (slot_answer owner mark taken) slots' l') where
          chosen_taken : chosen ≡ taken
          unfolding RegistersCall
          chosen_taken = same_slot owner mark chosen taken (ap (slot_answer owner mark) (sym (chosen_here blank_memory blank_process [])) ∙ ap (λ (d : Done). d.answer) (does.1 blank_memory (process blank_process [])))

          does_both : (is_some taken && is_none free) ≡ false → (z : Memory) (p : Process) (r : List SharedReadMark) → Fits r →
              after (register_reader_for_snapshot n mode owner mark bytes) (memory z) (process p r) ≡ done (slot_answer owner mark taken) (lent_in z slots') (new_record owner mark taken free (registry_in p l' r))
          unfolding RegistersCall
          does_both x z p r s =
              let d = does.1 z (process p r) in
              made z p r s.1 (rw ((absent r s).0, good, chosen_here z p r, chosen_taken, (absent r s).1, x))
              ∙ rw ((absent r s).0, ap (λ (d : Done). d.memory) d, ap (λ (d : Done). d.process) d, chosen_here z p r, chosen_taken, (absent r s).1)

        nothing : (slots' : SharedSlots) (l' : List ℕ) → RegistersCall settings reader bytes slots l none slots' l' → Means slots' l' (Ok None)
        unfolding PlanCarried RegistersCall
        nothing slots' l' does = (does.0, λ r s q z p. does_both None slots' l' does refl z p r (s, q))

        -- no record is empty: the call is refused if a slot could be taken
        pub without_record : free ≡ None → (takes : Bool) → takes ≡ is_some chosen → (plan : Result (Option SharePlan) Refusal) → plan ≡ cond takes (Err RegistryFull) (Ok None) → Means slots l plan
        unfolding chosen_by
        without_record none_empty takes t plan e = rw (e, t) (go chosen refl)
          where
            go : (c : Option ℕ) → chosen ≡ c → Means slots l (cond (is_some c) (Err RegistryFull) (Ok None))
            go (Some i) x = refused_as RegistryFull (λ z p r s. later z p r s.1 ∙ rw ((absent r s).0, good, chosen_here z p r, x, (absent r s).1, none_empty))
            go None x = let q = from_neither (lowest_slot (available_by slots.bitmap.now l bytes) n 0) (lowest_slot (stale_by mode bytes slots.bitmap.now slots.reader_owners.now l) n 0) x in nothing slots l (takes_none settings reader bytes slots l room.0.words_enough q.0 q.1)

        -- register_checked has answered
        module _ (taken : Option ℕ) (slots' : SharedSlots) (l' : List ℕ) (does : RegistersCall settings reader bytes slots l (slot_answer owner mark taken) slots' l') where
          pub none_taken : taken ≡ None → Means slots' l' (Ok None)
          none_taken x = nothing slots' l' (rw x at does)

          pub taken_below : (slot : ℕ) → taken ≡ Some slot → slot < n
          taken_below slot x = chosen_below settings bytes slots l slot (chosen_taken taken slots' l' does ∙ x)

          pub slot_fits : (slot : ℕ) → taken ≡ Some slot → slot < 2 ^ 32
          slot_fits slot x = let small = taken_below slot x in let most = room.0.most in omega arith

          pub published : (slot : ℕ) → taken ≡ Some slot → (place : ℕ) → free ≡ Some place → Means slots' l' (Ok (Some (shares_published place slot reader)))
          unfolding PlanCarried RegistersCall
          published slot x place e = (does.0, λ r s q z p. does_both (Some slot) slots' l' (rw x at does) (rw e) z p r (s, q) ∙ rw e)

          pub registered : (place : ℕ) → free ≡ Some place → Means slots' l' (Ok (option_map (λ slot. shares_published place slot reader) taken))
          registered place e = go taken refl
            where
              go : (answer : Option ℕ) → taken ≡ answer → Means slots' l' (Ok (option_map (λ slot. shares_published place slot reader) answer))
              go None x = none_taken x
              go (Some slot) x = published slot x place e
