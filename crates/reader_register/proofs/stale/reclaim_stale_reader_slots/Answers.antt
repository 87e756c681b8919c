use Rattle.reader_slots.proofs.Emptied.{emptied_done, emptied_next, emptied_whole}
use Rattle.reader_slots.proofs.Lent.{lent_then}
use mathlib.Core.Path.{◌∙◌}
use native.Mathlib.Omega.{arith}
use Rattle.reader_register.proofs.stale.reclaim_stale_reader_slots.Goals as goal

pub loop-slot-preserved : goal.loop-slot-preserved
loop-slot-preserved c = let i = c.loop-slot.invariant in let e = c.try_reclaim_stale_reader_slot.ensures in (omega arith, lent_then _ _ _ i.1 e.0, λ z p. emptied_next _ _ _ _ _ _ (i.2 z p) _ (omega arith) _ (e.1 z p))

pub returns : goal.returns
returns c = let i = c.loop-slot.invariant in (i.1, λ z p. emptied_done _ _ _ _ _ _ (i.2 z p) (omega arith) ∙ emptied_whole _ _ _ _ _)
