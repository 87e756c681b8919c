use Rattle.reader_moves.proofs.Released.{release_early, release_slot_number, release_not_held, release_done}
use Rattle.std.proofs.lemmas.Result.{err_from_is_err_and}
use Rattle.reader_moves.proofs.update.unregister_core.Goals as goal

pub returns-in_err-check_registry : goal.returns-in_err-check_registry
returns-in_err-check_registry c = let p = err_from_is_err_and c.from_residual.result c.from_residual.ensures.1 in rw (p.1, p.2) (release_early _ _ _ _ _ _ _ c.in_err-check_registry.ensures)

pub returns-then-settings-slot : goal.returns-then-settings-slot
returns-then-settings-slot c = release_slot_number _ _ _ _ _ _ c.in_ok-check_registry.ensures c.if-settings-slot.true

pub returns-then-eq : goal.returns-then-eq
returns-then-eq c = release_not_held _ _ _ _ _ _ c.in_ok-check_registry.ensures c.if-settings-slot.false (rw c.of-owners.ensures.local at c.if-eq.ensures)

pub returns : goal.returns
returns c = release_done _ _ _ _ _ _ c.in_ok-check_registry.ensures c.if-settings-slot.false (rw c.of-owners.ensures.local at c.if-eq.ensures) (rw (c.of-owners.ensures.shared, c.of-owners.ensures.local) at c.if-differ_from.ensures) c.if-eq-2.ensures c.if-registry.false _ _ c.release_slot.ensures
