-- The line has no more bytes than its buffer. Assumes nothing.
use Rattle.std.proofs.Common.{◌≤◌, length}
use Rattle.program_lines.proofs.input.Lines.next_line.Given as goal

abbrev pub invariant-parts : goal.invariant-parts
invariant-parts g l = l.len ≤ length l.line
