use mathlib.Core.Path.{◌≡◌}
use Prim.Native.Nat.{◌*◌}
use Rattle.index_scan.specs.InnerSearch.{nearest}
use Rattle.index_scan.proofs.search.Search.nearest.Given as goal

abbrev pub invariant-loop-look : goal.invariant-loop-look
invariant-loop-look l = l.found ≡ nearest l.self l.to_frame (l.look * 8)
