-- The second attempt of register_reader, decided before anything is stored: where no slot can be taken at once, the slot
-- that can be after the reclaim is the lowest stale one. Assumes nothing.
use mathlib.Core.Path.{◌≡◌, refl}
use mathlib.Core.Bool.{Bool, true, false, not, ◌&&◌}
use mathlib.Core.List.{List, []}
use Prim.Native.Nat.{ℕ, ◌-◌, ◌/◌, ◌<◌}
use native.Mathlib.Omega.{arith}
use lib.Dec.{eqb}
use lib.ListN.{length, get_or}
use borrow.Author.Tests.{eq-eqb}
use Rattle.wal_types.specs.declared.SharedWalOwnershipMode.{SharedWalOwnershipMode}
use Rattle.wal_types.specs.Settings.{is_fcntl}
use Rattle.wal_types.specs.Memory.{Memory, Process, slot_bit}
use Rattle.wal_types.specs.Store.{apply}
use Rattle.std.specs.Prelude.{Option, Some, None}
use Rattle.reader_slots.specs.Slots.{held, is_free, granted, empty_slots}
use Rattle.reader_slots.specs.Search.{lowest_slot}
use Rattle.reader_slots.proofs.Emptied.{stores_nothing, starts_at}
use Rattle.reader_slots.proofs.Kept.{SlotSame, aside_same, over_aside, picked_free}
use Rattle.reader_slots.proofs.Lowest.{lowest_nothing, lowest_same, lowest_at, found_below}
use Rattle.reader_register.specs.Register.{available, reclaimable, reclaim_all, first_slot, second_slot}

-- a stale slot, once free, can be taken
pub stale_then_free : (f h g w f' : Bool) → (not f && not h && g && w) ≡ true → f' ≡ true → (not h && f' && g) ≡ true
stale_then_free false false true w f' e q = rw q
stale_then_free true h g w f' e q = let z : ◌≡◌ {A = Bool} false true = e in cc
stale_then_free false true g w f' e q = let z : ◌≡◌ {A = Bool} false true = e in cc
stale_then_free false false false w f' e q = let z : ◌≡◌ {A = Bool} false true = e in cc

module _ (n : ℕ) (mode : SharedWalOwnershipMode) (bytes : List ℕ) (m : Memory) (p : Process) where
  abbrev stale : Memory → ℕ → Bool
  stale = reclaimable mode bytes p

  -- the lowest stale slot, in the memory before the call
  abbrev pub stale_slot : Option ℕ
  stale_slot = lowest_slot (stale m) n 0

  -- a slot is as stale in two memories with the same cells for it
  by_cells : (j : ℕ) (x x' : Memory) → SlotSame j x x' → stale x' j ≡ stale x j
  by_cells j x x' s = rw (s.bit_same, s.owner_same 0)

  -- where none is stale, the reclaim stores nothing
  pub nothing_reclaimed : stale_slot ≡ None → reclaim_all n mode bytes p m ≡ []
  nothing_reclaimed e = stores_nothing mode stale n 0 m (lowest_nothing (stale m) n 0 e)

  -- and where one is, it starts at the lowest
  pub reclaimed_from : (i : ℕ) → stale_slot ≡ Some i → reclaim_all n mode bytes p m ≡ empty_slots mode stale (n - i) i m
  reclaimed_from i e = let b = found_below (stale m) n i e in starts_at mode stale n 0 i (n - i) m (omega arith) (omega arith) (lowest_at (stale m) n 0 i e).1

  module _ (words : (j : ℕ) → j < n → j / 64 < length m.bitmap) (none_free : first_slot n bytes m p ≡ None) where
    abbrev reclaimed : Memory
    reclaimed = apply (reclaim_all n mode bytes p m) m

    -- after the reclaim, a slot can be taken exactly if it was stale
    then_available : (j : ℕ) → j < n → available bytes p reclaimed j ≡ stale m j
    then_available j l = go (stale m j) refl
      where
        go : (t : Bool) → stale m j ≡ t → available bytes p reclaimed j ≡ t
        go true e = stale_then_free (is_free m j) (held p j) (granted bytes j) (not (is_fcntl mode && eqb (get_or m.reader_owners j 0) 0)) (is_free reclaimed j) e (eq-eqb (slot_bit reclaimed.bitmap j) 1 (picked_free mode stale j (by_cells j) n 0 m (omega arith) (omega arith) e (words j l)))
        go false e = rw (aside_same j m (reclaim_all n mode bytes p m) (over_aside mode stale j (by_cells j) n 0 m e)).bit_same (lowest_nothing (available bytes p m) n 0 none_free j (omega arith) (omega arith))

    pub second_is_stale : second_slot n mode bytes m p ≡ stale_slot
    second_is_stale = lowest_same (available bytes p reclaimed) (stale m) n 0 (λ j a b. then_available j (omega arith))
