-- The refusals of a shared registration and of a shared release, by value, and what the first four leave behind them. Assumes nothing.
use mathlib.Core.Path.{◌≡◌, refl, sym, ◌∙◌}
use mathlib.Core.Bool.{Bool, true, false, not, ◌&&◌}
use mathlib.Core.List.{List, [], ◌∷◌}
use Prim.Native.Nat.{ℕ, ◌≤◌}
use lib.Dec.{ltb}
use borrow.Author.Tests.{ltb-false}
use Rattle.wal_types.specs.declared.SharedWalOwnershipMode.{SharedWalOwnershipMode}
use Rattle.wal_types.specs.declared.refusal.Refusal.{Refusal}
use Rattle.wal_types.specs.declared.refusal.Refusal.TheVariants.{NoSuchMark}
use Rattle.wal_types.specs.Refusal.{Test, number, ◌if◌}
use Rattle.wal_types.specs.declared.settings.Reader.{Reader}
use Rattle.reader_slots.specs.declared.slots.SharedSlots.{SharedSlots}
use Rattle.reader_slots.specs.Inner.{registry_length_tests, registry_length_refusal, short, reader_tests, reader_refusal}
use Rattle.reader_slots.proofs.Calls.{none_applies, lowest_first, lowest_rest, neither_true, EnoughLent, enough_lent}
use Rattle.reader_shared.specs.Inner.{release_by, is_known, frees, share_length_refusal, four_tests, share_refusal, last_tests, last_refusal, mark_tests, mark_refusal, unshare_refusal}

-- refusals 1 and 2, then 9 and 10
module _ (n words frames owners locals records : ℕ) (reader : Reader) where
  abbrev by_length : List Test
  by_length = registry_length_tests n words frames owners locals records

  pub share_early : (r : Refusal) → number r ≡ registry_length_refusal n words frames owners locals records → number r ≡ share_length_refusal n words frames owners locals records reader
  unfolding registry_length_refusal share_length_refusal
  share_early r e = sym (lowest_first by_length (reader_tests reader.owner.0 reader.mark) r e)

  pub share_late : 0 ≡ registry_length_refusal n words frames owners locals records → (k : ℕ) → k ≡ reader_refusal reader.owner.0 reader.mark → k ≡ share_length_refusal n words frames owners locals records reader
  unfolding registry_length_refusal reader_refusal share_length_refusal
  share_late z k e = e ∙ sym (lowest_rest by_length (reader_tests reader.owner.0 reader.mark) z)

-- where none of them applies, each list has its cells
module _ (n : ℕ) (s : SharedSlots) (l : List ℕ) (records : ℕ) (reader : Reader) where
  pub share_room : 0 ≡ share_refusal n s l records reader → EnoughLent n s l × (n ≤ records)
  unfolding share_refusal
  share_room e =
      let t = none_applies (four_tests n s l records reader) (sym e) in
      let q = neither_true (short n s l) (ltb records n) t.1.0 in
      (enough_lent n s l t.0 q.0, ltb-false records n q.1)

-- refusals 9 and 10, then 12
module _ (owner mark : ℕ) (known : Bool) where
  pub mark_early : (r : Refusal) → number r ≡ reader_refusal owner mark → number r ≡ mark_refusal owner mark known
  unfolding reader_refusal mark_refusal
  mark_early r e = sym (lowest_first (reader_tests owner mark) ((NoSuchMark if not known) ∷ []) r e)

  module _ (z : 0 ≡ reader_refusal owner mark) where
    pub mark_unknown : known ≡ false → 12 ≡ mark_refusal owner mark known
    unfolding reader_refusal mark_refusal
    mark_unknown x = sym (lowest_rest (reader_tests owner mark) ((NoSuchMark if not known) ∷ []) z ∙ rw x)

    pub mark_known : known ≡ true → 0 ≡ mark_refusal owner mark known
    unfolding reader_refusal mark_refusal
    mark_known x = sym (lowest_rest (reader_tests owner mark) ((NoSuchMark if not known) ∷ []) z ∙ rw x)

-- refusals 7 and 8, then 9, 10 and 12
module _ (mode : SharedWalOwnershipMode) (known frees_slot : Bool) (owner mark shared local : ℕ) where
  pub unshare_early : (r : Refusal) → number r ≡ last_refusal mode frees_slot owner shared local → number r ≡ unshare_refusal mode known frees_slot owner mark shared local
  unfolding last_refusal unshare_refusal
  unshare_early r e = sym (lowest_first (last_tests mode frees_slot owner shared local) (mark_tests owner mark known) r e)

  pub unshare_late : 0 ≡ last_refusal mode frees_slot owner shared local → (k : ℕ) → k ≡ mark_refusal owner mark known → k ≡ unshare_refusal mode known frees_slot owner mark shared local
  unfolding last_refusal mark_refusal unshare_refusal
  unshare_late z k e = e ∙ sym (lowest_rest (last_tests mode frees_slot owner shared local) (mark_tests owner mark known) z)

-- what a release is, by the record
pub known_by : (a b : Bool) → is_known (release_by a b) ≡ a
known_by false b = refl
known_by true false = refl
known_by true true = refl

pub frees_by : (a b : Bool) → frees (release_by a b) ≡ (a && b)
frees_by false b = refl
frees_by true false = refl
frees_by true true = refl
