use Rattle.std.proofs.lemmas.Result.{err_from_is_err_and}
use Rattle.wal_types.proofs.Refusals.{number_not_zero}
use Rattle.index_end.proofs.Turns.{kept_front}
use Rattle.index_record.proofs.RolledBack.{rollback_refused, rollback_none, rollback_even, rollback_odd}
use Rattle.index_find.proofs.Settings.{passed_settings, passed_long, passed_frames}
use lib.ListN.{length}
use lib.Seq.{length-take-le}
use mathlib.Core.Path.{◌≡◌, sym, ◌∙◌}
use native.Mathlib.Omega.{arith}
use Rattle.index_record.proofs.rollback.rollback_frames.Goals as goal

pub returns-in_err-check_index : goal.returns-in_err-check_index
returns-in_err-check_index c z p =
    let a = c.args in
    let e = err_from_is_err_and c.from_residual.result c.from_residual.ensures.1 in
    rw (e.1, e.2) (rollback_refused a.settings.capacity a.settings.max_blocks a.max_frame z a.header.now a.pages.now a.frames.now a.hash.now p _ (sym c.in_err-check_index.ensures) (number_not_zero c.in_err-check_index.field-0.0))

pub returns-then-len-n : goal.returns-then-len-n
returns-then-len-n c z p =
    let a = c.args in
    let passed = sym c.in_ok-check_index.ensures in
    let lent = passed_frames a.settings.capacity a.settings.max_blocks a.header.now (length a.pages.now) (length a.frames.now) (length a.hash.now) passed in
    let n = c.kept_entries-n.result in
    let same : n ≡ a.header.now.frame_index_len = omega (arith, c.kept_entries-n.ensures.1, length-take-le a.header.now.frame_index_len a.frames.now lent) in
    rollback_none a.settings.capacity a.settings.max_blocks a.max_frame z a.header.now a.pages.now a.frames.now a.hash.now p passed n (c.kept_entries-n.ensures.0 ∙ kept_front a.max_frame a.frames.now _ lent) same

pub returns-then-n-eq0 : goal.returns-then-n-eq0
returns-then-n-eq0 c z p =
    let a = c.args in
    let passed = sym c.in_ok-check_index.ensures in
    let lent = passed_frames a.settings.capacity a.settings.max_blocks a.header.now (length a.pages.now) (length a.frames.now) (length a.hash.now) passed in
    rollback_even a.settings.capacity a.settings.max_blocks a.max_frame z a.header.now a.pages.now a.frames.now a.hash.now p passed _ (c.kept_entries-n.ensures.0 ∙ kept_front a.max_frame a.frames.now _ lent) c.if-len-n.false c.if-n-eq0.true

pub returns : goal.returns
returns c z p =
    let a = c.args in
    let passed = sym c.in_ok-check_index.ensures in
    let good = passed_settings a.settings.capacity a.settings.max_blocks a.header.now _ _ _ passed in
    let long = passed_long a.settings.capacity a.settings.max_blocks a.header.now _ _ _ passed in
    let lent = passed_frames a.settings.capacity a.settings.max_blocks a.header.now (length a.pages.now) (length a.frames.now) (length a.hash.now) passed in
    rw c.rebuild_last.ensures
    (rollback_odd a.settings.capacity a.settings.max_blocks a.max_frame z a.header.now a.pages.now a.frames.now a.hash.now p passed _ (c.kept_entries-n.ensures.0 ∙ kept_front a.max_frame a.frames.now _ lent) c.if-len-n.false c.if-n-eq0.false (omega arith))
