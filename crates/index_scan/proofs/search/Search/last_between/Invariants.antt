use mathlib.Core.Path.{◌≡◌}
use Prim.Native.Nat.{◌≤◌}
use lib.ListN.{length}
use Rattle.index_scan.specs.InnerSearch.{last_between}
use Rattle.index_scan.proofs.search.Search.last_between.Given as goal

abbrev pub invariant-loop-n : goal.invariant-loop-n
invariant-loop-n l =
    (l.n ≤ length l.self.pages.now) × (last_between l.self l.min_frame l.max_frame l.n ≡ last_between l.self l.min_frame l.max_frame (length l.self.pages.now))

abbrev pub decreases-loop-n : goal.decreases-loop-n
decreases-loop-n l = l.n
