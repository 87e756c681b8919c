-- "None" writes nothing: where no slot is found there is no stale one either, so none is reclaimed. Assumes nothing.
use mathlib.Core.Path.{◌≡◌, refl, sym, ap, ◌∙◌, subst}
use mathlib.Core.List.{List}
use Prim.Native.Nat.{ℕ}
use native.Mathlib.Decide.{ℕ_discrete}
use native.Mathlib.Omega.{arith}
use Rattle.wal_types.specs.declared.SharedWalOwnershipMode.{SharedWalOwnershipMode}
use Rattle.wal_types.specs.Memory.{Memory, Process}
use Rattle.wal_types.specs.Store.{apply}
use Rattle.wal_types.specs.Call.{none, Done, after, done}
use Rattle.std.specs.Prelude.{Option, Some, None}
use Rattle.reader_register.specs.Register.{take_found, slot_answer, hold_found, first_slot, second_slot, chosen_slot, reclaim_unless, register_reader}
use Rattle.reader_register.proofs.Second.{second_is_stale, nothing_reclaimed}
use Rattle.reader_register.proofs.Registered.{from_neither}
use Rattle.reader_register.proofs.Taken.{number_given, register_refused, register_accepted, room}

module _ (n : ℕ) (mode : SharedWalOwnershipMode) (owner mark : ℕ) (bytes : List ℕ) (m : Memory) (p : Process) where
  abbrev reclaimed : Memory
  reclaimed = apply (reclaim_unless n mode bytes p (first_slot n bytes m p) m) m

  reclaims_none : number_given n mode owner mark bytes m p ≡ 0 → chosen_slot n mode bytes m p ≡ None → reclaimed ≡ m
  reclaims_none x e =
      let both = from_neither (first_slot n bytes m p) (second_slot n mode bytes m p) e in
      let enough = room n mode owner mark bytes m p x in
      let stale = sym (second_is_stale n mode bytes m p (λ j a. omega arith) both.0) ∙ both.1 in
      rw both.0 (rw (nothing_reclaimed n mode bytes m p stale))

  abbrev Same : Done → Type 0
  Same d = (d.memory ≡ m) × (d.process ≡ p)

  -- register_reader that answers none changes nothing
  pub none_writes_nothing : (after (register_reader n mode owner mark bytes) m p).answer ≡ none → Same (after (register_reader n mode owner mark bytes) m p)
  none_writes_nothing e = go (ℕ_discrete (number_given n mode owner mark bytes m p) 0)
    where
      found : number_given n mode owner mark bytes m p ≡ 0 → (s : Option ℕ) → chosen_slot n mode bytes m p ≡ s → slot_answer owner mark s ≡ none → Same (done (slot_answer owner mark s) (apply (take_found owner mark s reclaimed) reclaimed) (hold_found owner p s))
      found x (Some i) c f = cc
      found x None c f = (reclaims_none x c, refl)

      go : Dec (number_given n mode owner mark bytes m p ≡ 0) → Same (after (register_reader n mode owner mark bytes) m p)
      go (yes x) =
          let a = register_accepted n mode owner mark bytes m p x in
          subst Same (sym a) (found x (chosen_slot n mode bytes m p) refl (sym (ap (λ (d : Done). d.answer) a) ∙ e))
      go (no f) = subst Same (sym (register_refused n mode owner mark bytes m p f)) (refl, refl)
