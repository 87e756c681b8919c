use mathlib.Core.Path.{◌≡◌}
use Prim.Native.Nat.{ℕ, ◌-◌, ◌≤◌}
use lib.ListN.{length}
use Rattle.index_find.specs.Find.{visible_from, visible}
use Rattle.index_find.proofs.find.visible_frame_index_slots.Given as goal

abbrev pub invariant-loop-low : goal.invariant-loop-low
invariant-loop-low l =
    (l.low ≤ l.high) × (l.high ≤ length l.frames) × (fuel : ℕ) × (l.high - l.low ≤ fuel) × (visible_from fuel l.frames l.max_frame l.low l.high ≡ visible l.frames (length l.frames) l.max_frame)

abbrev pub decreases-loop-low : goal.decreases-loop-low
decreases-loop-low l = l.high - l.low
