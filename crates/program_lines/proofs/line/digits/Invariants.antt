-- The digits that are left decide the rest. Assumes nothing.
use Rattle.std.proofs.Common.{◌≡◌, drop}
use Rattle.program_lines.specs.InnerLine.{digits_after}
use Rattle.program_lines.proofs.line.digits.Given as goal

abbrev pub invariant-loop-b : goal.invariant-loop-b
invariant-loop-b l = digits_after l.n (drop l.b-index l.field) ≡ digits_after 0 l.field
