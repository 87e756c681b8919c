-- The loop's invariant: the map is right of the table.
use mathlib.Core.Path.{◌≡◌}
use Rattle.index_rebuild.specs.InnerMap.{WordsTell, Tells}
use lib.ListN.{length}
use Prim.Native.Nat.{◌≤◌, ◌<◌}
use Rattle.index_rebuild.proofs.map.empty_by_map.Given as goal

abbrev pub invariant-loop : goal.invariant-loop
invariant-loop l = ((l.counter ≤ 8192) × (l.home < 8192)) × ((length l.cells ≡ 128) × (WordsTell l.cells l.words × Tells l.hash l.cells))
