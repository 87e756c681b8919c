-- What is written and what is left stay together. Assumes nothing.
use Rattle.std.specs.Io.KnownBytes.{Keeps, append_known}
use Rattle.program_lines.specs.InnerWindow.{items}
use Rattle.program_lines.proofs.window.Window.write_to.Given as goal

abbrev pub invariant-writes : goal.invariant-writes
invariant-writes g l =
    Keeps (append_known (g.W.Write.contents l.fn.sink) (items l.fn.self)) (append_known (g.W.Write.contents l.sink) (items l.self))
