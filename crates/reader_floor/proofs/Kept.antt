-- A slot that is held here keeps its cells: its own process never finds it dead. Assumes nothing.
use mathlib.Core.Path.{◌≡◌, refl}
use mathlib.Core.Bool.{Bool, true, false, not, ◌&&◌}
use mathlib.Core.List.{List}
use Prim.Native.Nat.{ℕ}
use Rattle.wal_types.specs.declared.SharedWalOwnershipMode.{SharedWalOwnershipMode}
use Rattle.wal_types.specs.Memory.{Memory, Process}
use Rattle.wal_types.specs.Store.{apply}
use Rattle.reader_slots.specs.Slots.{held, granted}
use Rattle.reader_slots.proofs.Kept.{SlotSame, Aside, aside_same, never_aside}
use Rattle.reader_probe.specs.Live.{skipped, dead}
use Rattle.reader_floor.specs.Floor.{reclaim_dead}

middle_false : (a c : Bool) → (a && false && c) ≡ false
middle_false true c = refl
middle_false false c = refl

module _ (mode : SharedWalOwnershipMode) (bytes : List ℕ) (p : Process) (j : ℕ) (here : held p j ≡ true) where
  pub dead_aside : (looked : ℕ) (m : Memory) → Aside j m (reclaim_dead mode bytes p looked m)
  dead_aside looked m = never_aside mode (dead mode bytes p) j (λ x. rw here (middle_false (not (skipped mode x j)) (granted bytes j))) looked 0 m

  pub dead_keeps : (looked : ℕ) (m : Memory) → SlotSame j m (apply (reclaim_dead mode bytes p looked m) m)
  dead_keeps looked m = aside_same j m (reclaim_dead mode bytes p looked m) (dead_aside looked m)
