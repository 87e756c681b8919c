use Rattle.std.proofs.Common.{◌≤◌, ◌+◌, drop}
use Rattle.list_choose.specs.Chosen.{firsts}
use Rattle.list_choose.specs.InnerChosen.{listed, chosen, SameList}
use Rattle.list_choose.proofs.Turns.{Chooses}
use Rattle.list_choose.proofs.choose.choose.Given as goal

abbrev pub invariant-loop-entry : goal.invariant-loop-entry
invariant-loop-entry l = record {
  same_list : SameList l.initial.chosen l.chosen;
  room : l.chosen.count ≤ l.entry-index + 1;
  chooses : Chooses l.pages l.bounds.frames.now l.bounds.min_frame l.bounds.max_frame (drop l.entry-index l.rest) l.last (chosen l.chosen) (listed l.bounds (firsts l.pages l.gathered));
}
