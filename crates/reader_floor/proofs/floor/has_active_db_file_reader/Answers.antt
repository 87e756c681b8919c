use Rattle.reader_floor.proofs.Floored.{db_file_early, db_file_late}
use Rattle.std.proofs.lemmas.Result.{err_from_is_err_and}
use Rattle.reader_floor.proofs.floor.has_active_db_file_reader.Goals as goal

pub returns-in_err-check_slots : goal.returns-in_err-check_slots
returns-in_err-check_slots c = let p = err_from_is_err_and c.from_residual.result c.from_residual.ensures.1 in rw (p.1, p.2) (db_file_early _ _ _ _ _ c.in_err-check_slots.ensures)

pub returns-in_err-check_db_file_probes : goal.returns-in_err-check_db_file_probes
returns-in_err-check_db_file_probes c = let p = err_from_is_err_and c.from_residual-in_err-check_db_file_probes.result c.from_residual-in_err-check_db_file_probes.ensures.1 in rw (p.1, p.2) (db_file_late _ _ _ _ c.in_ok-check_slots.ensures _ c.in_err-check_db_file_probes.ensures)
