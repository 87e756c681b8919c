use Rattle.reader_floor.proofs.Floored.{floor_refused, floor_accepted}
use Rattle.std.proofs.lemmas.Result.{err_from_is_err_and}
use Rattle.reader_floor.proofs.floor.min_active_reader_frame.Goals as goal

pub returns-in_err-check_all_slots : goal.returns-in_err-check_all_slots
returns-in_err-check_all_slots c = let p = err_from_is_err_and c.from_residual.result c.from_residual.ensures.1 in rw (p.1, p.2) (floor_refused _ _ _ _ _ c.in_err-check_all_slots.ensures)

pub returns : goal.returns
returns c = floor_accepted _ _ _ _ c.in_ok-check_all_slots.ensures _ _ c.live_marks-marks.ensures
