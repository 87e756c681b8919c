use Rattle.std.proofs.Common.{◌≤◌, length, arith}
use Rattle.program_lines.proofs.Windows.{put_behind}
use Rattle.program_lines.proofs.window.Window.put.Goals as goal

pub returns : goal.returns
returns c =
    let w = c.args.self.now in
    let within : w.end ≤ length w.bytes = omega arith in
    put_behind w.bytes _ _ w.start w.end _ w.ordered within c.copy_from_slice.ensures.after
