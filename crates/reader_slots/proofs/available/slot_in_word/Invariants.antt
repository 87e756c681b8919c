-- The loop's invariant: the bits that are left have the lowest available slot of the word.
use Rattle.reader_slots.specs.Search.{lowest_slot}
use Rattle.reader_slots.specs.Inner.{available_in}
use Prim.Native.Nat.{◌-◌}
use mathlib.Core.Path.{◌≡◌}
use Rattle.reader_slots.proofs.available.slot_in_word.Given as goal

abbrev pub invariant-loop-left : goal.invariant-loop-left
invariant-loop-left l = lowest_slot (available_in l.left l.first l.local_readers l.card) (l.end - l.first) l.first ≡ lowest_slot (available_in l.word l.first l.local_readers l.card) (l.end - l.first) l.first

abbrev pub decreases-loop-left : goal.decreases-loop-left
decreases-loop-left l = l.left
