-- A row has at most 18 numbers. Assumes nothing.
use Rattle.std.proofs.Common.{◌≤◌}
use Rattle.program_recorded.proofs.perform.Given as goal

abbrev pub invariant-loop-field : goal.invariant-loop-field
invariant-loop-field l = l.len ≤ 18
