use mathlib.Core.Path.{◌≡◌}
use Prim.Native.Nat.{◌≤◌}
use Rattle.index_scan.specs.InnerSearch.{last_between}
use Rattle.index_scan.proofs.search.Search.last_between_in.Given as goal

abbrev pub invariant-loop-n : goal.invariant-loop-n
invariant-loop-n l =
    (l.from ≤ l.n) × (last_between l.self l.min_frame l.max_frame l.n ≡ last_between l.self l.min_frame l.max_frame l.end)
