use Rattle.std.proofs.Common.{◌≤◌}
use Rattle.list_gather.specs.InnerGathered.{down}
use Rattle.list_gather.specs.InnerGathering.{SameList, Gathering}
use Rattle.list_gather.proofs.gather.Gathered.gather_block.Given as goal

abbrev pub invariant-loop-n : goal.invariant-loop-n
invariant-loop-n l = record {
  in_block : l.first ≤ l.n;
  same_list : SameList l.initial.self l.self;
  gathers : Gathering l.visible.pages.now l.initial.self l.self (down l.visible.hash.now l.end) (down l.visible.hash.now l.n) l.end l.n;
}
