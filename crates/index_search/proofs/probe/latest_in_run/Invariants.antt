-- The loop's invariant: the rest is the front of the run, and tells what the whole run tells.
use Rattle.index_search.specs.InnerRun.{met_in}
use lib.ListN.{length, take}
use mathlib.Core.Path.{◌≡◌}
use Prim.Native.Nat.{◌≤◌}
use Rattle.index_search.proofs.probe.latest_in_run.Given as goal

abbrev pub invariant-loop-cell : goal.invariant-loop-cell
invariant-loop-cell l = ((length l.rest ≤ length l.run) × (l.rest ≡ take (length l.rest) l.run)) × (met_in l.run l.pages l.page_id 0 (length l.rest) l.before ≡ met_in l.run l.pages l.page_id 0 (length l.run) l.before)

abbrev pub decreases-loop-cell : goal.decreases-loop-cell
decreases-loop-cell l = length l.rest
