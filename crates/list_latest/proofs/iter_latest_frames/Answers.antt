use Rattle.std.proofs.Common.{refl}
use Rattle.std.proofs.lemmas.Result.{err_from_is_err_and}
use Rattle.list_latest.proofs.Answers.{refused_first, listed_or_short}
use Rattle.list_latest.proofs.iter_latest_frames.Goals as goal

pub returns-in_err-check_index : goal.returns-in_err-check_index
returns-in_err-check_index c =
    let e = err_from_is_err_and c.from_residual.result c.from_residual.ensures.1 in
    rw (e.1, e.2) (refused_first _ _ _ _ _ _ _ _ _ _ _ _ c.in_err-check_index.field-0.0 c.in_err-check_index.ensures refl refl)

pub returns-then-count-le-BLOCK_ENTRIES : goal.returns-then-count-le-BLOCK_ENTRIES
returns-then-count-le-BLOCK_ENTRIES c =
    let a = c.args in
    let s = c.write_with_room in
    listed_or_short a.settings.capacity a.settings.max_blocks a.header a.pages.now a.frames.now a.hash.now a.min_frame a.max_frame a.out_pages.now a.out_frames.now s.new.out_pages s.new.out_frames
    c.in_ok-check_index.ensures _ c.visible_frame_index_slots-count.ensures.0 s.result s.ensures

pub returns-else-count-le-BLOCK_ENTRIES : goal.returns-else-count-le-BLOCK_ENTRIES
returns-else-count-le-BLOCK_ENTRIES c =
    let a = c.args in
    let s = c.write_with_room-else-count-le-BLOCK_ENTRIES in
    listed_or_short a.settings.capacity a.settings.max_blocks a.header a.pages.now a.frames.now a.hash.now a.min_frame a.max_frame a.out_pages.now a.out_frames.now s.new.out_pages s.new.out_frames
    c.in_ok-check_index.ensures _ c.visible_frame_index_slots-count.ensures.0 s.result s.ensures
