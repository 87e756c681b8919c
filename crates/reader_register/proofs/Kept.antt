-- A slot that is held here keeps its cells: its own process never reclaims it. Assumes nothing.
use mathlib.Core.Path.{◌≡◌, refl}
use mathlib.Core.Bool.{Bool, true, false, not, ◌&&◌}
use mathlib.Core.List.{List}
use Prim.Native.Nat.{ℕ}
use lib.Dec.{eqb}
use lib.ListN.{get_or}
use Rattle.wal_types.specs.declared.SharedWalOwnershipMode.{SharedWalOwnershipMode}
use Rattle.wal_types.specs.Settings.{is_fcntl}
use Rattle.wal_types.specs.Memory.{Memory, Process}
use Rattle.wal_types.specs.Store.{apply}
use Rattle.reader_slots.specs.Slots.{held, is_free, granted}
use Rattle.reader_slots.proofs.Kept.{SlotSame, Aside, aside_same, never_aside}
use Rattle.reader_register.specs.Register.{reclaimable, reclaim_all}

-- a slot held here is not stale
second_false : (a c d : Bool) → (a && false && c && d) ≡ false
second_false true c d = refl
second_false false c d = refl

module _ (n : ℕ) (mode : SharedWalOwnershipMode) (bytes : List ℕ) (p : Process) (j : ℕ) (here : held p j ≡ true) where
  pub reclaim_aside : (m : Memory) → Aside j m (reclaim_all n mode bytes p m)
  reclaim_aside m =
      never_aside mode (reclaimable mode bytes p) j (λ x. rw here (second_false (not (is_free x j)) (granted bytes j) (not (is_fcntl mode && eqb (get_or x.reader_owners j 0) 0)))) n 0 m

  pub reclaim_keeps : (m : Memory) → SlotSame j m (apply (reclaim_all n mode bytes p m) m)
  reclaim_keeps m = aside_same j m (reclaim_all n mode bytes p m) (reclaim_aside m)
