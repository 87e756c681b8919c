-- The loop's invariant: the blocks before decide of the frame, and their cells and those counted are all.
use mathlib.Core.Path.{◌≡◌}
use Prim.Native.Nat.{◌+◌, ◌≤◌}
use Rattle.index_find.specs.InnerLookup.{found_in, cells_in}
use Rattle.index_find.proofs.find.Lookup.find_along_runs.Given as goal

abbrev pub invariant-loop-k : goal.invariant-loop-k
invariant-loop-k l =
    (l.k ≤ l.blocks) × ((found_in l.self l.k ≡ found_in l.self l.blocks) × (l.cells + cells_in l.self l.k ≡ cells_in l.self l.blocks))
