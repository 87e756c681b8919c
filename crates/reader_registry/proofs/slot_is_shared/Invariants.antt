use Rattle.std.proofs.Common.{eqb}
use Rattle.reader_registry.proofs.slot_is_shared.Given as goal

abbrev pub ghost-first_used : goal.ghost-first_used
ghost-first_used a = λ r. eqb r.slot a.is_wanted.0.now
