use Rattle.std.proofs.Common.{ℕ, arith}
use Rattle.std.proofs.lemmas.List.{length-take, length-drop}
use Rattle.program_lines.proofs.Windows.{consumed}
use Rattle.program_lines.proofs.window.Window.consume.Goals as goal

pub returns : goal.returns
returns c =
    let w = c.args.self.now in
    consumed w.bytes w.start w.end c.args.count (omega (arith, length-take {A = ℕ}, length-drop {A = ℕ}))
