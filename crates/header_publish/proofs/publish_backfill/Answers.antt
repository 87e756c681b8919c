-- `header_publish::publish_backfill`: where the count is there already, nothing is stored, and that is the call. Assumes nothing.
use Rattle.std.proofs.Common.{sym, ◌∙◌}
use borrow.Author.Tests.{eqb-true, not-false}
use Rattle.header_publish.proofs.Kept.{backfill_kept}
use Rattle.header_publish.proofs.publish_backfill.Goals as goal

pub returns-else-backfill_changes : goal.returns-else-backfill_changes
returns-else-backfill_changes c = backfill_kept _ _ (eqb-true _ _ (not-false _ (sym c.backfill_changes.ensures ∙ c.if-backfill_changes.false)))
