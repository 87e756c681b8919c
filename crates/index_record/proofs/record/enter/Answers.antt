use mathlib.Core.Path.{refl}
use Rattle.index_record.proofs.record.enter.Goals as goal

-- written out, so that where one differs the check says which
pub returns : goal.returns
returns c = record { header_is = rw c.longer.ensures at c.put_in.ensures; pages_are = refl; frames_are = refl; hash_is = c.name_in_block.ensures }
