-- rollback_frames (document 01, "rollback_frames"). Assumes nothing.
use Rattle.std.specs.Prelude.{Result, Ok, Err, not, ℕ, ◌-◌, eqb, ltb}
use Rattle.wal_types.specs.Memory.{Memory, to_header, frame_index_len_cell}
use Rattle.wal_types.specs.declared.refusal.Refusal.{Refusal}
use Rattle.wal_types.specs.Refusal.{number}
use Rattle.wal_types.specs.Store.{Piece, one, when, ◌then◌}
use Rattle.wal_types.specs.Call.{Call, Answer, refused, kept, does, unless}
use Rattle.index_find.specs.Index.{index_tests, block_of, place_of, clear_block, insert_entries}
use Rattle.index_end.specs.Kept.{kept_of}

abbrev pub kept_len : ℕ → Memory → ℕ
kept_len bound m = kept_of m.header.frame_index_len m.frames bound

-- The last kept block's hash is cleared and rebuilt in entry order; none is touched if the kept length is a multiple of 4,096.
abbrev pub rebuild_last : ℕ → Piece
rebuild_last n = when (not (eqb (place_of n) 0)) (clear_block (block_of n) then insert_entries (place_of n) (n - place_of n))

-- If nothing is dropped, nothing is written.
abbrev pub rollback_stores : ℕ → Piece
rollback_stores n m =
    when (ltb n m.header.frame_index_len) (one (to_header frame_index_len_cell n) then rebuild_last n) m

unfoldable pub rollback_frames : ℕ → ℕ → ℕ → Call
rollback_frames capacity b bound =
    unless (λ m p. index_tests capacity b m) (λ m. does (kept (kept_len bound m)) (rollback_stores (kept_len bound m)) m)

-- What each case of the result tells.
abbrev pub rollback_answer : Result ℕ Refusal → Answer
rollback_answer (Ok n) = kept n
rollback_answer (Err r) = refused (number r)
