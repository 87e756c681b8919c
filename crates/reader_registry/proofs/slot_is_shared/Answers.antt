-- Written out, since it names the equation at which a wrong version fails.
use Rattle.std.proofs.Common.{◌∙◌, ap, is_some}
use Rattle.reader_registry.proofs.Scan.{slot_told}
use Rattle.reader_registry.proofs.slot_is_shared.Goals as goal

pub returns : goal.returns
returns c = c.is_some.ensures ∙ (ap is_some c.first_used.ensures ∙ slot_told _ _ _ _ c.first_records.ensures)
