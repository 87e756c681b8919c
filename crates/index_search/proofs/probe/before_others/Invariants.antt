-- The loop's invariant: the cells behind the rest name other pages' entries.
use lib.ListN.{length, take}
use mathlib.Core.Path.{◌≡◌}
use Prim.Native.Nat.{◌≤◌}
use Rattle.index_search.specs.InnerRun.{All, Other}
use Rattle.index_search.proofs.probe.before_others.Given as goal

abbrev pub invariant-loop-before : goal.invariant-loop-before
invariant-loop-before l = (length l.rest ≤ length l.run) × ((l.rest ≡ take (length l.rest) l.run) × All (Other l.run l.pages l.page_id) (length l.rest) (length l.run))

abbrev pub decreases-loop-before : goal.decreases-loop-before
decreases-loop-before l = length l.rest
