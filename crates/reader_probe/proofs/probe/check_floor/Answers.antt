use Rattle.reader_probe.proofs.Looked.{look_fails}
use mathlib.Core.Path.{sym, ◌∙◌}
use Rattle.reader_probe.proofs.probe.check_floor.Goals as goal

pub returns-then-some_probe_failed : goal.returns-then-some_probe_failed
returns-then-some_probe_failed c = look_fails _ _ _ _ _ _ c.in_ok-card_has_error.ensures.refused (sym c.if-some_probe_failed.true ∙ c.some_probe_failed.ensures)
