use Rattle.std.proofs.Common.{◌≡◌, ◌≤◌, length}
use Rattle.index_end.specs.Kept.{kept_of}
use Rattle.index_end.proofs.kept.kept_entries.Given as goal

abbrev pub invariant-loop-last : goal.invariant-loop-last
invariant-loop-last l = (length l.kept ≤ length l.frames) × (kept_of (length l.kept) l.kept l.max_frame ≡ kept_of (length l.frames) l.frames l.max_frame)

abbrev pub decreases-loop-last : goal.decreases-loop-last
decreases-loop-last l = length l.kept
