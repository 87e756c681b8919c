-- The loop's invariant: the rest of the pass finds what the whole finds, and leaves the memory that the whole leaves.
use Rattle.reader_floor.proofs.Live.{DbFileSoFar}
use Rattle.reader_floor.proofs.floor.finds_db_file_reader.Given as goal

abbrev pub invariant-loop-slot : goal.invariant-loop-slot
invariant-loop-slot l = DbFileSoFar l.settings l.card l.initial.slots l.local_readers l.slot l.slots
