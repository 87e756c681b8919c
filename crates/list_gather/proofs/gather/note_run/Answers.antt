use Rattle.std.proofs.Common.{◌<◌, length, sym, arith}
use Rattle.list_gather.proofs.SeenValues.{or_false, has_none, noted_other, noted_next}
use Rattle.list_gather.proofs.gather.note_run.Goals.{then-v-le-BLOCK_ENTRIES, else-v-le-BLOCK_ENTRIES}
use Rattle.list_gather.proofs.gather.note_run.Goals as goal

pub loop-cell-init : goal.loop-cell-init
loop-cell-init c = record { every_value = omega arith; noted = λ v b. rw has_none (sym (or_false _)) }

pub loop-cell-preserved : goal.loop-cell-preserved
loop-cell-preserved c =
    let inv = c.loop-cell.invariant in
    let in_run : c.loop-cell.cell-index < length c.args.run.now = omega arith in record {
      every_value = omega arith;
      noted = λ v b. elim c.if-v-le-BLOCK_ENTRIES.branch [
        | then-v-le-BLOCK_ENTRIES w ↦ rw (w.seen-is, c.from-v.ensures) (noted_next _ _ in_run v _ _ (inv.noted v b) (omega arith))
        | else-v-le-BLOCK_ENTRIES w ↦ rw w.seen-is (noted_other _ _ in_run v _ _ (inv.noted v b) (λ e. absurd (omega arith)))
      ];
    }
