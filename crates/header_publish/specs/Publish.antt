-- publish_commit, publish_backfill, bump_checkpoint_seq and bump_checkpoint_epoch (document 01, "publish_commit"). None of them is ever refused. Assumes nothing.
use Rattle.std.specs.Prelude.{◌≡◌, ℕ, ◌+◌, ◌%◌, ◌^◌, max, nat_le}
use Rattle.wal_types.specs.declared.Header.{Header}
use Rattle.wal_types.specs.Memory.{Memory, Process, with_header, to_header, max_frame_cell, nbackfills_cell, transaction_count_cell, visibility_generation_cell, checkpoint_seq_cell, checkpoint_epoch_cell, checksum_1_cell, checksum_2_cell}
use Rattle.wal_types.specs.Store.{Piece, one, when, ◌then◌}
use Rattle.wal_types.specs.Call.{Call, Carried, Answer, ok, value, does, after, done}

-- The next number of a counter of some bits: the greatest goes to 0.
abbrev pub next : ℕ → ℕ → ℕ
next bits n = (n + 1) % 2 ^ bits

-- Commit: the published frame and the transaction count are raised, never lowered; the checksums are stored only if the
-- frame is at least the old published one; the generation rises by one.
abbrev pub commit_stores : ℕ → ℕ → ℕ → ℕ → Piece
commit_stores frame c1 c2 count m =
    (one (to_header max_frame_cell (max m.header.max_frame frame))
    then when (nat_le m.header.max_frame frame) (one (to_header checksum_1_cell c1) then one (to_header checksum_2_cell c2))
    then one (to_header transaction_count_cell (max m.header.transaction_count count))
    then one (to_header visibility_generation_cell (next 64 m.header.visibility_generation)))
    m

unfoldable pub publish_commit : ℕ → ℕ → ℕ → ℕ → Call
publish_commit frame c1 c2 count = does ok (commit_stores frame c1 c2 count)

-- Backfill: the copied count as given, lower or higher.
unfoldable pub publish_backfill : ℕ → Call
publish_backfill n = does ok (one (to_header nbackfills_cell n))

-- The checkpoint number rises by one; the answer is the new number.
unfoldable pub bump_checkpoint_seq : Call
bump_checkpoint_seq m =
    does (value (next 32 m.header.checkpoint_seq)) (one (to_header checkpoint_seq_cell (next 32 m.header.checkpoint_seq))) m

-- The checkpoint epoch rises by one; the answer is the old number.
unfoldable pub bump_checkpoint_epoch : Call
bump_checkpoint_epoch m =
    does (value m.header.checkpoint_epoch) (one (to_header checkpoint_epoch_cell (next 32 m.header.checkpoint_epoch))) m

-- On any memory with the header h in it, by any process, it answers a, leaves the header h', and changes nothing else.
abbrev pub HeaderCarried : Carried → Header → Answer → Header → Type 0
HeaderCarried carried h a h' = (z : Memory) (p : Process) → carried (with_header z h) p ≡ done a (with_header z h') p

abbrev pub HeaderCall : Call → Header → Answer → Header → Type 0
HeaderCall call = HeaderCarried (after call)
