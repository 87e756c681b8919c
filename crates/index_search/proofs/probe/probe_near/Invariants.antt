-- The loop's invariant: from this cell on, with what was met last, the probe answers what the whole probe answers; the cells
-- before it and those from it on are all that it looks at.
use Rattle.index_search.specs.InnerRun.{entry_named}
use Rattle.index_hash.specs.Block.{probe_from, probe, looked_from, looked}
use lib.ListN.{length}
use mathlib.Core.Path.{◌≡◌}
use Prim.Native.Nat.{◌≤◌, ◌+◌, ◌-◌, ◌%◌}
use Rattle.index_search.proofs.probe.probe_near.Given as goal

abbrev pub invariant-loop-turn : goal.invariant-loop-turn
invariant-loop-turn l = (l.turn ≤ 24) × ((probe_from (8192 - l.turn) l.hash l.pages l.page_id (length l.pages) ((l.from + l.turn) % 8192) (entry_named l.latest) ≡ probe l.hash l.pages l.page_id (length l.pages)) × (l.turn + looked_from (8192 - l.turn) l.hash (length l.pages) ((l.from + l.turn) % 8192) ≡ looked l.hash l.page_id (length l.pages)))
