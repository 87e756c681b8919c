use Rattle.reader_moves.proofs.Released.{move_reader, move_shared, move_done, move_stays}
use Rattle.std.proofs.lemmas.Result.{err_from_is_err_and}
use Rattle.reader_moves.proofs.update.update_core.Goals as goal

pub returns-in_err-check_reader : goal.returns-in_err-check_reader
returns-in_err-check_reader c = let p = err_from_is_err_and c.from_residual.result c.from_residual.ensures.1 in rw (p.1, p.2) (move_reader _ _ _ _ _ _ _ _ c.if-n-lt1.false c.if-n-gt256.false c.if-reader_frames-n.false c.if-reader_owners-n.false c.if-registry-n.false c.if-n-slot.false c.if-ne.ensures _ c.in_err-check_reader.ensures)

pub returns-then-registry : goal.returns-then-registry
returns-then-registry c = move_shared _ _ _ _ _ _ _ _ c.if-n-lt1.false c.if-n-gt256.false c.if-reader_frames-n.false c.if-reader_owners-n.false c.if-registry-n.false c.if-n-slot.false c.if-ne.ensures c.in_ok-check_reader.ensures c.if-registry.true

pub returns-then-reader_frames-slot : goal.returns-then-reader_frames-slot
returns-then-reader_frames-slot c = move_done _ _ _ _ _ _ _ _ c.if-n-lt1.false c.if-n-gt256.false c.if-reader_frames-n.false c.if-reader_owners-n.false c.if-registry-n.false c.if-n-slot.false c.if-ne.ensures c.in_ok-check_reader.ensures c.if-registry.false

pub returns-else-reader_frames-slot : goal.returns-else-reader_frames-slot
returns-else-reader_frames-slot c = move_stays _ _ _ _ _ _ _ _ c.if-n-lt1.false c.if-n-gt256.false c.if-reader_frames-n.false c.if-reader_owners-n.false c.if-registry-n.false c.if-n-slot.false c.if-ne.ensures c.in_ok-check_reader.ensures c.if-registry.false c.if-reader_frames-slot.false
