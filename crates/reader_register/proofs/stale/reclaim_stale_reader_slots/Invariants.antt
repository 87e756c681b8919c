-- The loop's invariant: what is left of the reclaim, from the memory now, leaves what the whole leaves.
use Rattle.reader_slots.proofs.Emptied.{emptied}
use Rattle.reader_register.specs.Register.{reclaimable}
use Rattle.reader_slots.specs.Inner.{SameSlots, lent_in}
use Rattle.reader_slots.specs.Slots.{locals_in}
use Rattle.wal_types.specs.Memory.{Memory, Process}
use Prim.Native.Nat.{◌-◌, ◌≤◌}
use mathlib.Core.Path.{◌≡◌}
use Rattle.reader_register.proofs.stale.reclaim_stale_reader_slots.Given as goal

abbrev pub invariant-loop-slot : goal.invariant-loop-slot
invariant-loop-slot l = (l.slot ≤ l.settings.n) × SameSlots l.initial.slots l.slots × ((z : Memory) (p : Process) → emptied l.settings.mode (reclaimable l.settings.mode l.card (locals_in p l.local_readers)) (l.settings.n - l.slot) l.slot (lent_in z l.slots) ≡ emptied l.settings.mode (reclaimable l.settings.mode l.card (locals_in p l.local_readers)) (l.settings.n - l.first) l.first (lent_in z l.initial.slots))
