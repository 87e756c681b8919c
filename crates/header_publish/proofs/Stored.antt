-- What the publishes and the bumps store to: their cells of the header. Said of their lists of stores, for whatever holds of a store to one of these. Assumes nothing.
use Rattle.std.proofs.Common.{ℕ, max, leb}
use Rattle.wal_types.specs.Memory.{max_frame_cell, nbackfills_cell, transaction_count_cell, visibility_generation_cell, checkpoint_seq_cell, checkpoint_epoch_cell, checksum_1_cell, checksum_2_cell, Store, to_header}
use Rattle.wal_types.specs.Store.{one, when, ◌then◌}
use Rattle.wal_types.proofs.Every.{EveryOf, EveryOfCall, every_then, every_when}
use Rattle.header_publish.specs.Publish.{next, commit_stores, publish_commit, publish_backfill, bump_checkpoint_seq, bump_checkpoint_epoch}

module _ (P : Store → Type 0) where
  -- publish_commit: the published frame and four others
  module _ (frame_cell : (v : ℕ) → P (to_header max_frame_cell v)) (first_sum : (v : ℕ) → P (to_header checksum_1_cell v)) (second_sum : (v : ℕ) → P (to_header checksum_2_cell v))
      (count_cell : (v : ℕ) → P (to_header transaction_count_cell v)) (generation : (v : ℕ) → P (to_header visibility_generation_cell v)) where
    commits : (frame c1 c2 count : ℕ) → EveryOf P (commit_stores frame c1 c2 count)
    commits frame c1 c2 count m =
        let raised = one (to_header max_frame_cell (max m.header.max_frame frame)) in
        let sums = one (to_header checksum_1_cell c1) then one (to_header checksum_2_cell c2) in
        let checked = when (leb m.header.max_frame frame) sums in
        let counted = one (to_header transaction_count_cell (max m.header.transaction_count count)) in
        every_then P (raised then checked then counted) (one (to_header visibility_generation_cell (next 64 m.header.visibility_generation)))
        (every_then P (raised then checked) counted
        (every_then P raised checked (λ x. (frame_cell _, tt)) (every_when P (leb m.header.max_frame frame) sums (λ x. (first_sum c1, (second_sum c2, tt)))))
        (λ x. (count_cell _, tt)))
        (λ x. (generation _, tt))
        m

    pub commit_stores_to : (frame c1 c2 count : ℕ) → EveryOfCall P (publish_commit frame c1 c2 count)
    unfolding publish_commit
    commit_stores_to frame c1 c2 count m p = commits frame c1 c2 count m

  pub backfill_stores : ((v : ℕ) → P (to_header nbackfills_cell v)) → (n : ℕ) → EveryOfCall P (publish_backfill n)
  unfolding publish_backfill
  backfill_stores cell n m p = (cell n, tt)

  pub seq_stores : ((v : ℕ) → P (to_header checkpoint_seq_cell v)) → EveryOfCall P bump_checkpoint_seq
  unfolding bump_checkpoint_seq
  seq_stores cell m p = (cell _, tt)

  pub epoch_stores : ((v : ℕ) → P (to_header checkpoint_epoch_cell v)) → EveryOfCall P bump_checkpoint_epoch
  unfolding bump_checkpoint_epoch
  epoch_stores cell m p = (cell _, tt)
