use Rattle.std.proofs.KnownBytes.{append_known-grown}
use Rattle.program_lines.proofs.output.WaitingWrite.write.Goals as goal

pub returns-clause-bytes : goal.returns-clause-bytes
returns-clause-bytes g c = append_known-grown _ _ _ _ _ c.in_ok-make_room.ensures.bytes c.put.ensures
