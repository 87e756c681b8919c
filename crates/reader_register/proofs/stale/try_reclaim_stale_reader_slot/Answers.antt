use mathlib.Core.Path.{sym, ◌∙◌}
use Rattle.reader_register.proofs.stale.try_reclaim_stale_reader_slot.Goals as goal

pub returns-then-is_stale_lent : goal.returns-then-is_stale_lent
returns-then-is_stale_lent c = (c.empty_slot.ensures.0, λ z p. rw (sym c.is_stale_lent.ensures ∙ c.if-is_stale_lent.true) (c.empty_slot.ensures.1 z))
