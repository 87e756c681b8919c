-- The loop's invariant: the table is the one built from the entries passed.
use Rattle.index_hash.specs.Block.{built}
use Prim.Native.Nat.{◌≤◌}
use mathlib.Core.Path.{◌≡◌}
use Rattle.index_rebuild.proofs.rebuild.Rebuild.insert_near.Given as goal

abbrev pub invariant-loop-local_index : goal.invariant-loop-local_index
invariant-loop-local_index l = (l.local_index ≤ l.end) × (l.hash ≡ built l.pages l.local_index)
