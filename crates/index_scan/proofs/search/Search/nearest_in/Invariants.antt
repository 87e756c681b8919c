use mathlib.Core.Path.{◌≡◌}
use Rattle.index_scan.specs.InnerSearch.{nearest}
use Rattle.index_scan.proofs.search.Search.nearest_in.Given as goal

abbrev pub invariant-loop-n : goal.invariant-loop-n
invariant-loop-n l = l.initial.found ≡ nearest l.self l.to_frame l.from → l.found ≡ nearest l.self l.to_frame l.n
