-- The loop's invariant: the rest of the pass gives the marks of the whole, and leaves the memory that the whole leaves.
use Rattle.reader_floor.proofs.Live.{MarksSoFar}
use Rattle.reader_floor.proofs.floor.live_marks.Given as goal

abbrev pub invariant-loop-slot : goal.invariant-loop-slot
invariant-loop-slot l = MarksSoFar l.settings l.card l.initial.slots l.local_readers l.slot l.slots l.marks
