-- The loop's invariant: the table is the one built from the entries passed, and the map is right of it.
use Rattle.index_rebuild.specs.InnerMap.{Tells}
use Rattle.index_hash.specs.Block.{built}
use lib.ListN.{length}
use Prim.Native.Nat.{◌≤◌}
use mathlib.Core.Path.{◌≡◌}
use Rattle.index_rebuild.proofs.rebuild.Rebuild.insert_by_map.Given as goal

abbrev pub invariant-loop-local_index : goal.invariant-loop-local_index
invariant-loop-local_index l = (l.local_index ≤ length l.pages) × ((l.hash ≡ built l.pages l.local_index) × Tells l.hash l.map.cells)
