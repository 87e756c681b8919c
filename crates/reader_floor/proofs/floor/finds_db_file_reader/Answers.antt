use Rattle.reader_floor.proofs.Live.{db_file_turn, db_file_found}
use Rattle.std.proofs.Common.{rules, arith, tests}
use Rattle.reader_floor.proofs.floor.finds_db_file_reader.Goals as goal

pub returns-then-eq : goal.returns-then-eq
returns-then-eq c = let h = c.loop-slot.invariant.lent in db_file_found _ _ _ _ _ _ c.loop-slot.invariant c.loop-slot-test.true (omega (arith, h)) _ _ c.live_reader_frame-live.ensures (search (rules, tests))

pub loop-slot-preserved : goal.loop-slot-preserved
loop-slot-preserved c = let h = c.loop-slot.invariant.lent in db_file_turn _ _ _ _ _ _ c.loop-slot.invariant c.loop-slot-test.true (omega (arith, h)) _ _ c.live_reader_frame-live.ensures (search (rules, tests))
