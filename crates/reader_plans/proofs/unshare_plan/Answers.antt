use Rattle.std.proofs.lemmas.Result.{err_from_is_err_and}
use Rattle.reader_plans.proofs.Unshares.{unshare_early, unshare_reader, unshare_refused}
use Rattle.reader_plans.proofs.unshare_plan.Goals as goal

pub returns-in_err-check_registry : goal.returns-in_err-check_registry
returns-in_err-check_registry c = let p = err_from_is_err_and c.from_residual.result c.from_residual.ensures.1 in rw (p.1, p.2) (unshare_early _ _ _ _ _ c.args.registry _ c.in_err-check_registry.ensures)

pub returns-in_err-check_reader : goal.returns-in_err-check_reader
returns-in_err-check_reader c = let p = err_from_is_err_and c.from_residual-in_err-check_reader.result c.from_residual-in_err-check_reader.ensures.1 in rw (p.1, p.2) (unshare_reader _ _ _ _ _ c.args.registry c.in_ok-check_registry.ensures c.if-settings-slot.false _ c.in_default.is _ c.in_err-check_reader.ensures)

pub returns-in_err-check_unshare : goal.returns-in_err-check_unshare
returns-in_err-check_unshare c = let p = err_from_is_err_and c.from_residual-in_err-check_unshare.result c.from_residual-in_err-check_unshare.ensures.1 in rw (p.1, p.2) (unshare_refused _ _ _ _ _ c.args.registry c.in_ok-check_registry.ensures c.if-settings-slot.false _ _ c.in-Shared.is _ c.of-release.ensures _ (rw (c.of-owners.ensures.shared, c.of-owners.ensures.local, c.is_registered.ensures, c.frees.ensures) at c.in_err-check_unshare.ensures))
