-- The changes that shared registrations and releases make. Assumes nothing.
use Rattle.std.specs.Prelude.{None, Option, Some}
use mathlib.Core.Path.{◌≡◌, refl, ap, ◌∙◌, subst}
use mathlib.Core.Bool.{Bool, true, false, cond}
use mathlib.Core.List.{List, []}
use Prim.Native.Nat.{ℕ, ◌<◌, ◌≤◌}
use native.Mathlib.Omega.{arith}
use lib.Dec.{eqb, ltb}
use lib.ListN.{length, get_or}
use lib.Seq.{get_or-set_same, get_or-set_other}
use borrow.Author.Tests.{ltb-false, eqb-true, eqb-false, ne_eqb, not-false}
use Rattle.wal_types.specs.declared.SharedReadMark.{SharedReadMark}
use Rattle.wal_types.specs.declared.SharedWalOwnershipMode.{SharedWalOwnershipMode}
use Rattle.wal_types.specs.Memory.{Memory, Process, no_mark}
use Rattle.wal_types.specs.Refusal.{lowest}
use Rattle.wal_types.specs.Call.{Answer, refused, ok, slot_taken, none, if_slot, Done, done, after}
use Rattle.wal_types.proofs.Refusals.{call_accepted}
use Rattle.reader_slots.specs.Slots.{short_slots, with_local}
use Rattle.reader_register.specs.Register.{chosen_slot, slot_answer, hold_found, registers, register_tests, register_reader}
use Rattle.reader_moves.specs.Update.{releases_slot}
use Rattle.reader_slots.proofs.Kept.{slot_same, emptied_other}
use Rattle.reader_slots.proofs.Calls.{none_applies, neither_true}
use Rattle.reader_register.proofs.Taken.{TookSlot, register_took}
use Rattle.reader_marks.specs.Registry.{record_of, empty_record, one_more, one_less, with_record}
use Rattle.reader_shared.specs.Shared.{no_room, share_tests, new_record, shares, register_reader_for_snapshot, registered, unshare_tests, unshares, unregister_reader_for_snapshot}
use Rattle.sequence.specs.Sequence.{share_op, unshare_op, shared_op}
use Rattle.sequence.specs.Hold.{counted}
use Rattle.sequence.proofs.SlotsAside.{by_tests}
use Rattle.sequence.proofs.SlotsCells.{not_both, both_true, rec_at, Fitting, record_found, NoRecord, record_missing, empty_found}
use Rattle.sequence.proofs.SlotsStep.{HeldKept, HeldStay, OtherRecords, Step, quiet, joined, opened, left, closed, nothing_done, other_held, register_done, register_held, register_stay}

-- a count that stays whether the mark is its own or not
either_way : (t : Bool) (c : ℕ) → cond t c c ≡ c
either_way true c = refl
either_way false c = refl

-- A new shared hold: slot t is taken, and the empty record r is now its and the mark's.
pub record Opening (n owner mark t r : ℕ) (m : Memory) (p : Process) (d : Done) : Type 0 where
  pub took : TookSlot n owner mark t p d.memory d.process
  pub record_below : r < n
  pub was_empty : (rec_at p r).holders ≡ 0
  pub mark_is : (rec_at d.process r).mark ≡ mark
  pub slot_is : (rec_at d.process r).slot ≡ t
  pub holders_is : (rec_at d.process r).holders ≡ 1
  pub others : OtherRecords r p d.process
  pub kept : HeldKept m p d.memory
  pub stay : HeldStay p d.process

module _ (n : ℕ) (mode : SharedWalOwnershipMode) (owner mark : ℕ) (bytes : List ℕ) (m : Memory) (p : Process) where
  abbrev chosen : Option ℕ
  chosen = chosen_slot n mode bytes m p

  -- the memory that a registration leaves
  abbrev taken : Memory
  taken = (after (registers n mode owner mark bytes) m p).memory

  abbrev sharing : Option ℕ → Done
  sharing r = after (λ x q. shares n mode owner mark bytes r x q) m p

  module _ (passes : lowest (share_tests n mode owner mark bytes m p) ≡ 0) where
    registry_room : n ≤ length p.registry
    registry_room = ltb-false (length p.registry) n (neither_true (short_slots n m p) (ltb (length p.registry) n) (none_applies (share_tests n mode owner mark bytes m p) passes).1.0).1

    -- a shared registration of a new mark does what register_reader does
    registers_too : register_done n mode owner mark bytes m p ≡ after (registers n mode owner mark bytes) m p
    unfolding register_reader
    registers_too =
        let a = none_applies (share_tests n mode owner mark bytes m p) passes in
        let s = (neither_true (short_slots n m p) (ltb (length p.registry) n) a.1.0).0 in
        call_accepted (register_tests n owner mark bytes) (registers n mode owner mark bytes) m p (rw (a.0, s, a.1.1.0, a.1.1.1.0, a.1.1.1.1.1.0))

    taken_held : HeldKept m p taken
    taken_held = subst (λ (d : Done). HeldKept m p d.memory) registers_too (register_held n mode owner mark bytes m p)

    -- an empty record is there for a slot that is found
    never_full : (t : ℕ) → record_of n p.registry mark ≡ None → chosen ≡ Some t → empty_record n p.registry ≡ None → ⊥
    never_full t q c e =
        let a = none_applies (share_tests n mode owner mark bytes m p) passes in
        let full : no_room n mode bytes m p None ≡ false = rw q at a.1.1.1.1.0 in
        not_both (no_room n mode bytes m p None) (rw (a.1.1.1.1.1.0, c, e)) full

    opening : (t r : ℕ) → chosen ≡ Some t → empty_record n p.registry ≡ Some r → Opening n owner mark t r m p (done (slot_answer owner mark (Some t)) taken (new_record owner mark (Some t) (Some r) (hold_found owner p (Some t))))
    opening t r c e =
        let place = empty_found n p r e in
        let room = registry_room in
        let took = (register_took n mode owner mark bytes m p t owner mark (ap (λ (d : Done). d.answer) registers_too ∙ ap (slot_answer owner mark) c)).1.1 in
        let process : (register_done n mode owner mark bytes m p).process ≡ hold_found owner p (Some t) = ap (λ (d : Done). d.process) registers_too ∙ ap (hold_found owner p) c in
        let new = get_or-set_same p.registry r (record { mark = mark; slot = t; owner = record { 0 = owner }; holders = 1 }) no_mark (omega (arith, place.0)) in
        record {
          took =
              record {
                below = took.below;
                was_free = took.was_free;
                owned = took.owned;
                used = took.used;
                frame_is = rw (ap (λ (d : Done). d.memory) registers_too) at took.frame_is;
                owner_is = rw (ap (λ (d : Done). d.memory) registers_too) at took.owner_is;
                bit_is = rw (ap (λ (d : Done). d.memory) registers_too) at took.bit_is;
                local_is = rw process at took.local_is;
              };
          record_below = place.0;
          was_empty = place.1;
          mark_is = ap (λ (x : SharedReadMark). x.mark) new;
          slot_is = ap (λ (x : SharedReadMark). x.slot) new;
          holders_is = ap (λ (x : SharedReadMark). x.holders) new;
          others = λ j f. get_or-set_other p.registry r j _ no_mark f;
          kept = taken_held;
          stay = rw process at (register_stay n mode owner mark bytes m p);
        }

    -- cases on the mark's record, the slot found and the empty record
    module _ (P : Done → Type 0) (at_record : (r : ℕ) → record_of n p.registry mark ≡ Some r → P (sharing (Some r))) (no_slot : P (done none taken p)) (at_slot : (t r : ℕ) → NoRecord n p mark → Opening n owner mark t r m p (done (slot_taken t owner mark) taken (new_record owner mark (Some t) (Some r) (hold_found owner p (Some t)))) → P (done (slot_taken t owner mark) taken (new_record owner mark (Some t) (Some r) (hold_found owner p (Some t))))) where
      with_slot : record_of n p.registry mark ≡ None → (s : Option ℕ) → chosen ≡ s → (e : Option ℕ) → empty_record n p.registry ≡ e → P (done (slot_answer owner mark s) taken (new_record owner mark s e (hold_found owner p s)))
      with_slot q (Some t) c (Some r) e = at_slot t r (record_missing n p mark q) (opening t r c e)
      with_slot q (Some t) c None e = absurd (never_full t q c e)
      with_slot q None c e f = no_slot

      by_record : (r : Option ℕ) → record_of n p.registry mark ≡ r → P (sharing r)
      by_record (Some r) q = at_record r q
      by_record None q = with_slot q chosen refl (empty_record n p.registry) refl

  abbrev pub share_done : Done
  share_done = after (register_reader_for_snapshot n mode owner mark bytes) m p

  share_cases : (P : Done → Type 0) → ((k : ℕ) → P (done (refused k) m p)) → ((passes : lowest (share_tests n mode owner mark bytes m p) ≡ 0) → P (sharing (record_of n p.registry mark))) → P share_done
  unfolding register_reader_for_snapshot
  share_cases P away made = by_tests (share_tests n mode owner mark bytes) (λ x q. shares n mode owner mark bytes (record_of n q.registry mark) x q) m p P away made

  -- a shared registration that answers a slot, of a mark that had no record
  pub share_opens : (i o : ℕ) → NoRecord n p mark → share_done.answer ≡ slot_taken i o mark → (r : ℕ) × Opening n owner mark i r m p share_done
  share_opens i o new =
      share_cases Opens (λ k e. never (refused k) e refl) (λ passes. by_record passes Opens at_record (λ e. never none e refl) at_slot (record_of n p.registry mark) refl)
    where
      Opens : Done → Type 0
      Opens d = d.answer ≡ slot_taken i o mark → (r : ℕ) × Opening n owner mark i r m p d

      never : {A : Type 0} (a : Answer) → a ≡ slot_taken i o mark → if_slot (λ t x k. true) false a ≡ false → A
      never a e f = absurd (not_both (if_slot (λ t x k. true) false a) (rw e) f)

      at_record : (r : ℕ) → record_of n p.registry mark ≡ Some r → Opens (sharing (Some r))
      at_record r q e = let f = record_found n p mark r q in absurd (new r f.below f.active f.mark_is)

      at_slot : (t r : ℕ) → NoRecord n p mark → Opening n owner mark t r m p (done (slot_taken t owner mark) taken (new_record owner mark (Some t) (Some r) (hold_found owner p (Some t)))) → Opens (done (slot_taken t owner mark) taken (new_record owner mark (Some t) (Some r) (hold_found owner p (Some t))))
      at_slot t r free o e =
          let same : t ≡ i = cc in
          (r, subst (λ (x : ℕ). Opening n owner mark x r m p (done (slot_taken t owner mark) taken (new_record owner mark (Some t) (Some r) (hold_found owner p (Some t))))) same o)

  -- the change that a shared registration makes
  module _ (E : ℕ → ℕ → Type 0) where
    abbrev ShareCount : Answer → ℕ → ℕ → ℕ
    ShareCount a k c = counted k (shared_op (share_op owner mark bytes)) a c

    abbrev ShareStep : Done → Type 0
    ShareStep d = Step n m p d (ShareCount d.answer) E

    pub share_step : ShareStep share_done
    share_step =
        share_cases ShareStep (λ k. nothing_done n m p (ShareCount (refused k)) E (λ j c. either_way (eqb mark j) c) (refused k))
        (λ passes. by_record passes ShareStep (at_record passes) (quiet (λ j c. either_way (eqb mark j) c) (taken_held passes) (λ j h. h) (λ j. refl)) at_slot (record_of n p.registry mark) refl)
      where
        at_record : lowest (share_tests n mode owner mark bytes m p) ≡ 0 → (r : ℕ) → record_of n p.registry mark ≡ Some r → ShareStep (sharing (Some r))
        at_record passes r q =
            let f = record_found n p mark r q in
            let room = registry_room passes in
            joined r mark (λ j c. refl) f (get_or-set_same p.registry r (one_more (rec_at p r)) no_mark (omega arith)) (λ j g. get_or-set_other p.registry r j (one_more (rec_at p r)) no_mark g) (λ j h. slot_same j m) (λ j h. h)

        at_slot : (t r : ℕ) → NoRecord n p mark → Opening n owner mark t r m p (done (slot_taken t owner mark) taken (new_record owner mark (Some t) (Some r) (hold_found owner p (Some t)))) → ShareStep (done (slot_taken t owner mark) taken (new_record owner mark (Some t) (Some r) (hold_found owner p (Some t))))
        at_slot t r free o =
            opened r mark t (λ j c. refl) o.record_below o.was_empty free o.mark_is o.slot_is o.holders_is o.others o.took.was_free
            (rw (o.took.local_is, ne_eqb owner 0 o.took.owned)) o.kept o.stay

-- shared releases
module _ (n : ℕ) (mode : SharedWalOwnershipMode) (mark slot owner : ℕ) (m : Memory) (p : Process) (E : ℕ → ℕ → Type 0) where
  abbrev UnshareCount : Answer → ℕ → ℕ → ℕ
  UnshareCount a k c = counted k (shared_op (unshare_op mark slot owner)) a c

  abbrev UnshareStep : Done → Type 0
  UnshareStep d = Step n m p d (UnshareCount d.answer) E

  pub unshare_step : UnshareStep (after (unregister_reader_for_snapshot n mode mark slot owner) m p)
  unfolding unregister_reader_for_snapshot
  unshare_step =
      by_tests (unshare_tests n mode mark slot owner) (λ x q. unshares mode slot (record_of n q.registry mark) x q) m p UnshareStep
      (λ k. nothing_done n m p (UnshareCount (refused k)) E (λ j c. either_way (eqb mark j) c) (refused k))
      (λ e. by_record e (record_of n p.registry mark) refl)
    where
      registry_long : lowest (unshare_tests n mode mark slot owner m p) ≡ 0 → n ≤ length p.registry
      registry_long e = ltb-false (length p.registry) n (neither_true (short_slots n m p) (ltb (length p.registry) n) (none_applies (unshare_tests n mode mark slot owner m p) e).1.0).1

      known : (e : lowest (unshare_tests n mode mark slot owner m p) ≡ 0) → registered slot owner p (record_of n p.registry mark) ≡ true
      known e = not-false (registered slot owner p (record_of n p.registry mark)) (none_applies (unshare_tests n mode mark slot owner m p) e).1.1.1.1.1.1.1.0

      by_last : lowest (unshare_tests n mode mark slot owner m p) ≡ 0 → (r : ℕ) → Fitting n p mark r → (rec_at p r).slot ≡ slot → (t : Bool) → eqb (rec_at p r).holders 1 ≡ t → UnshareStep (after (λ x q. cond t (releases_slot mode slot x (with_record q r (one_less (get_or q.registry r no_mark)))) (record { answer = ok; stores = []; process = with_record q r (one_less (get_or q.registry r no_mark)) })) m p)
      by_last e r f s true l =
          let room = registry_long e in
          closed r mark slot (λ j c. refl) f s (eqb-true (rec_at p r).holders 1 l) (get_or-set_same p.registry r (one_less (rec_at p r)) no_mark (omega arith)) (λ j g. get_or-set_other p.registry r j (one_less (rec_at p r)) no_mark g) (λ j g. emptied_other mode slot j m g)
          (other_held slot 0 p (with_local (with_record p r (one_less (rec_at p r))) slot 0) refl)
      by_last e r f s false l =
          let room = registry_long e in
          left r mark (λ j c. refl) f (eqb-false (rec_at p r).holders 1 l) (get_or-set_same p.registry r (one_less (rec_at p r)) no_mark (omega arith)) (λ j g. get_or-set_other p.registry r j (one_less (rec_at p r)) no_mark g) (λ j h. slot_same j m) (λ j h. h)

      by_record : lowest (unshare_tests n mode mark slot owner m p) ≡ 0 → (r : Option ℕ) → record_of n p.registry mark ≡ r → UnshareStep (after (λ x q. unshares mode slot r x q) m p)
      by_record e (Some r) q =
          let k : registered slot owner p (Some r) ≡ true = rw q at (known e) in
          by_last e r (record_found n p mark r q) (eqb-true (rec_at p r).slot slot (both_true (eqb (rec_at p r).slot slot) (eqb (rec_at p r).owner.0 owner) k).0) (eqb (rec_at p r).holders 1) refl
      by_record e None q = absurd (not_both false (rw q at (known e)) refl)
