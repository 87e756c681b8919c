use Rattle.std.proofs.Common.{List, ◌≤◌, length, take, ap, ◌∙◌, arith}
use Rattle.wal_types.specs.Call.{Pair}
use Rattle.std.proofs.lemmas.Grind.{common_steps}
use Rattle.std.proofs.lemmas.Result.{err_from_is_err_and}
use Rattle.index_scan.specs.Between.{frame_chosen}
use Rattle.index_scan.proofs.Scanned.{entries_cut}
use Rattle.index_scan.proofs.Choices.{search_refused, search_gives}
use Rattle.index_scan.proofs.between.frame_between.Goals as goal

pub returns-in_err-check_entries : goal.returns-in_err-check_entries
returns-in_err-check_entries c =
    let a = c.args in
    let e = err_from_is_err_and c.from_residual.result c.from_residual.ensures.1 in
    rw (e.1, e.2) (search_refused a.settings.capacity a.settings.max_blocks a.page_id a.min_frame a.max_frame a.header a.pages.now a.frames.now c.in_err-check_entries.field-0.0 c.in_err-check_entries.ensures)

pub returns : goal.returns
returns c =
    let a = c.args in
    let n = a.header.frame_index_len in
    let lent : a.header.frame_index_len ≤ length a.pages.now = grind (arith, common_steps) in
    let cut = entries_cut n a.pages.now a.frames.now lent in
    search_gives a.settings.capacity a.settings.max_blocks a.page_id a.min_frame a.max_frame a.header a.pages.now a.frames.now c.in_ok-check_entries.ensures _ _
    (c.last_between.ensures ∙ ap (λ (es : List Pair). frame_chosen es a.page_id a.min_frame a.max_frame (length (take n a.pages.now))) cut)
