use Rattle.reader_limit.proofs.Limited.{limit_refused, limit_told}
use Rattle.std.proofs.lemmas.Result.{err_from_is_err_and}
use Rattle.reader_limit.proofs.limit.copy_back_limit.Goals as goal

pub returns-in_err-check_all_slots : goal.returns-in_err-check_all_slots
returns-in_err-check_all_slots c = let p = err_from_is_err_and c.from_residual.result c.from_residual.ensures.1 in rw (p.1, p.2) (limit_refused _ _ _ _ _ _ _ c.in_err-check_all_slots.ensures)

pub returns : goal.returns
returns c = limit_told _ _ _ _ _ _ c.in_ok-check_all_slots.ensures _ _ c.live_marks-marks.ensures _ _ c.limit_by_floor-limit.ensures c.limit_by_db_file.ensures
