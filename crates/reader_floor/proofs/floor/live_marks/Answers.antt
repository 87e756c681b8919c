use Rattle.reader_floor.proofs.Live.{marks_turn}
use native.Mathlib.Omega.{arith}
use Rattle.reader_floor.proofs.floor.live_marks.Goals as goal

pub loop-slot-preserved : goal.loop-slot-preserved
loop-slot-preserved c = let h = c.loop-slot.invariant.lent in rw c.lower_marks-marks.ensures (marks_turn _ _ _ _ _ _ _ c.loop-slot.invariant c.loop-slot-test.true (omega (arith, h)) _ _ c.live_reader_frame-live.ensures)
