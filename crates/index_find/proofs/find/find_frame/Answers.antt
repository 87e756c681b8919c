use Rattle.std.proofs.lemmas.Result.{err_from_is_err_and}
use Rattle.index_find.proofs.LookedUp.{find_refused, find_empty, find_through, count_refused, count_empty, count_looked}
use Rattle.wal_types.proofs.Refusals.{number_not_zero}
use Rattle.index_find.proofs.Settings.{passed_frames}
use Rattle.index_find.proofs.Search.{visible_front}
use lib.ListN.{length}
use mathlib.Core.Path.{sym, ◌∙◌}
use Rattle.index_find.proofs.find.find_frame.Goals as goal

pub returns-in_err-check_index : goal.returns-in_err-check_index
returns-in_err-check_index c =
    let a = c.args in
    let e = err_from_is_err_and c.from_residual.result c.from_residual.ensures.1 in
    let r = c.in_err-check_index.field-0.0 in
    let refused = sym c.in_err-check_index.ensures in
    rw (e.1, e.2) (
      λ z p. find_refused a.settings.capacity a.settings.max_blocks a.page_id a.min_frame a.max_frame a.frame_watermark z a.header a.pages.now a.frames.now a.hash.now p _ refused (number_not_zero r),
      λ z. count_refused a.settings.capacity a.settings.max_blocks a.page_id a.min_frame a.max_frame a.frame_watermark z a.header a.pages.now a.frames.now a.hash.now (λ x. number_not_zero r (sym refused ∙ x)),
    )

pub returns-then-upper-min_frame : goal.returns-then-upper-min_frame
returns-then-upper-min_frame c =
    let a = c.args in
    let passed = sym c.in_ok-check_index.ensures in
    let above = c.bounds-lower.ensures.1 in (
      λ z p. find_empty a.settings.capacity a.settings.max_blocks a.page_id a.min_frame a.max_frame a.frame_watermark z a.header a.pages.now a.frames.now a.hash.now p passed _ above c.if-upper-min_frame.true,
      λ z. count_empty a.settings.capacity a.settings.max_blocks a.page_id a.min_frame a.max_frame a.frame_watermark z a.header a.pages.now a.frames.now a.hash.now passed _ above c.if-upper-min_frame.true,
    )

pub returns : goal.returns
returns c =
    let a = c.args in
    let passed = sym c.in_ok-check_index.ensures in
    let above = c.bounds-lower.ensures.1 in
    let below = c.bounds-lower.ensures.0 in
    let seen = c.visible_frame_index_slots-visible_slots.ensures.0 ∙ visible_front _ _ _ (passed_frames a.settings.capacity a.settings.max_blocks a.header (length a.pages.now) (length a.frames.now) (length a.hash.now) passed) in
    let looked = c.find.ensures in (
      λ z p. find_through a.settings.capacity a.settings.max_blocks a.page_id a.min_frame a.max_frame a.frame_watermark z a.header a.pages.now a.frames.now a.hash.now p passed _ above c.if-upper-min_frame.false _ _ _ below seen looked.0,
      λ z. count_looked a.settings.capacity a.settings.max_blocks a.page_id a.min_frame a.max_frame a.frame_watermark z a.header a.pages.now a.frames.now a.hash.now passed _ above c.if-upper-min_frame.false _ _ _ below seen looked.1,
    )
