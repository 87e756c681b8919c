use Rattle.std.proofs.Common.{◌*◌, min}
use Rattle.list_gather.specs.InnerGathered.{down}
use Rattle.list_gather.specs.InnerGathering.{SameList, Gathering}
use Rattle.list_gather.proofs.gather.Visible.gather.Given as goal

abbrev pub invariant-loop-k : goal.invariant-loop-k
invariant-loop-k l = record {
  same_list : SameList l.initial.gathered l.gathered;
  gathers : Gathering l.self.pages.now l.initial.gathered l.gathered (down l.self.hash.now l.self.count) (down l.self.hash.now (min l.self.count (4096 * l.k))) l.self.count (min l.self.count (4096 * l.k));
}
