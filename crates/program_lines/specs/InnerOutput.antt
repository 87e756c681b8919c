-- Answers that wait, and what they are written to. Assumes nothing.
use Rattle.std.specs.Prelude.{ℕ, List, Option}
use Rattle.std.specs.Io.KnownBytes.{append_known}
use Rattle.program_lines.specs.declared.output.Waiting.{Waiting}
use Rattle.program_lines.specs.InnerWindow.{items}

-- the bytes that wait
abbrev pub waiting : {T : Type 0} → Waiting T → List ℕ
waiting w = items w.window

-- what they are written to
abbrev pub waiting_sink : {T : Type 0} → Waiting T → T
waiting_sink w = w.sink

-- the bytes that are written, and then those that wait
abbrev pub waiting_contents : {T : Type 0} → (T → Option (List ℕ)) → Waiting T → Option (List ℕ)
waiting_contents contents w = append_known (contents w.sink) (items w.window)
