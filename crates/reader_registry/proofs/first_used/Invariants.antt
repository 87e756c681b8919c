-- The loop's invariant: the records from the part on answer what all of them answer.
use Rattle.std.proofs.Common.{◌≡◌, ◌*◌}
use Rattle.std.specs.List.{position, position_from}
use Rattle.reader_marks.specs.InnerScan.{used}
use Rattle.reader_registry.proofs.first_used.Given as goal

abbrev pub invariant-loop-k : goal.invariant-loop-k
invariant-loop-k g l = record {
  by_eight : l.k-iterator.iter.size ≡ 8;
  answers : position_from (used g.test) (l.k-iterator.count * 8) l.k-iterator.iter.rest.now ≡ position (used g.test) l.records;
}
