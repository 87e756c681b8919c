-- What a buffer of a fixed size has, and how much room there is behind it. Assumes nothing.
use Rattle.std.specs.Prelude.{ℕ, ◌-◌, List, slice_range}
use Rattle.program_lines.specs.declared.window.Window.{Window}

abbrev pub items : Window → List ℕ
items w = slice_range w.bytes w.start w.end

abbrev pub room : Window → ℕ
room w = 65536 - w.end
