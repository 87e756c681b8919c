use Rattle.std.proofs.Common.{◌≡◌, ◌*◌, [], get_or, take, drop, sym, ◌∙◌, arith, rules}
use Rattle.std.proofs.Math.Seq.{take_all}
use Rattle.list_gather.proofs.SeenValues.{has_none, run_at, run_noted, run_empty}
use Rattle.list_gather.proofs.gather.note_cells.Goals.{then-ne, else-ne}
use Rattle.list_gather.proofs.gather.note_cells.Goals as goal

pub loop-run-init : goal.loop-run-init
loop-run-init c = record { every_value = omega arith; noted = λ v s b. rw has_none (c.requires v b) }

pub loop-run-preserved : goal.loop-run-preserved
loop-run-preserved c =
    let cells = c.args.cells.now in
    let i = c.loop-run.run-index in
    let inv = c.loop-run.invariant in
    let run : get_or c.as_chunks.result.0.now i [] ≡ take 8 (drop (8 * i) cells) = rw c.as_chunks.ensures.front (run_at 8 _ cells i [] (omega arith)) in record {
      every_value = omega arith;
      noted = λ v s b. elim c.if-ne.branch [
        | then-ne w ↦ rw w.seen-is (run_noted cells i v (omega arith) _ (inv.noted v s b) _ (rw run at (w.note_run.ensures.1 v b)))
        | else-ne w ↦ rw w.seen-is (run_empty cells i v (omega arith) _ (inv.noted v s b) s (sym run ∙ search rules))
      ];
    }

pub returns : goal.returns
returns c = λ v s b. rw (take_all (8 * c.loop-run.run-index) c.args.cells.now (omega arith)) at (c.loop-run.invariant.noted v s b)
