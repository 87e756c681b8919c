use Rattle.reader_register.proofs.Registered.{takes_free, register_refused, register_accepted}
use Rattle.std.proofs.lemmas.Result.{err_from_is_err_and}
use mathlib.Core.Path.{sym, ◌∙◌}
use Rattle.reader_register.proofs.register.register_reader.Goals as goal

pub returns-in_err-check_register : goal.returns-in_err-check_register
returns-in_err-check_register c = let p = err_from_is_err_and c.from_residual.result c.from_residual.ensures.1 in rw (p.1, p.2) (register_refused _ _ _ _ _ _ c.in_err-check_register.ensures)

pub returns-in-Some : goal.returns-in-Some
returns-in-Some c = register_accepted _ _ _ _ _ c.in_ok-check_register.ensures _ _ _ (takes_free _ _ _ _ _ _ (sym c.available_lent.ensures ∙ c.in-Some.is) _ _ c.take_slot.ensures)
