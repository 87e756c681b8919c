use mathlib.Core.Path.{refl}
use Rattle.header_locks.specs.declared.Lock.TheVariants.{Writer, Checkpoint}
use Rattle.header_locks.proofs.Cells.{owner_kept}
use Rattle.header_locks.proofs.owner_changes.Goals as goal

pub returns-in-Writer : goal.returns-in-Writer
returns-in-Writer c = rw c.in-Writer.is (refl, owner_kept Writer c.args.owner.0 _)

pub returns-in-Checkpoint : goal.returns-in-Checkpoint
returns-in-Checkpoint c = rw c.in-Checkpoint.is (refl, owner_kept Checkpoint c.args.owner.0 _)
