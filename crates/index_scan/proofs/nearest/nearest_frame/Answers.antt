use Rattle.std.proofs.Common.{List, ◌≤◌, length, ap, ◌∙◌, arith}
use Rattle.wal_types.specs.Call.{Pair}
use Rattle.std.proofs.lemmas.Grind.{common_steps}
use Rattle.std.proofs.lemmas.Result.{err_from_is_err_and}
use Rattle.index_scan.specs.Nearest.{nearest}
use Rattle.index_scan.proofs.Scanned.{entries_cut}
use Rattle.index_scan.proofs.Distances.{nearest_refused, nearest_answers}
use Rattle.index_scan.proofs.nearest.nearest_frame.Goals as goal

pub returns-in_err-check_entries : goal.returns-in_err-check_entries
returns-in_err-check_entries c =
    let a = c.args in
    let e = err_from_is_err_and c.from_residual.result c.from_residual.ensures.1 in
    rw (e.1, e.2) (nearest_refused a.settings.capacity a.settings.max_blocks a.page_id a.to_frame a.header a.pages.now a.frames.now c.in_err-check_entries.field-0.0 c.in_err-check_entries.ensures)

pub returns : goal.returns
returns c =
    let a = c.args in
    let lent : a.header.frame_index_len ≤ length a.pages.now = grind (arith, common_steps) in
    let cut = entries_cut a.header.frame_index_len a.pages.now a.frames.now lent in
    nearest_answers a.settings.capacity a.settings.max_blocks a.page_id a.to_frame a.header a.pages.now a.frames.now c.in_ok-check_entries.ensures _
    (c.nearest.ensures ∙ ap (λ (es : List Pair). nearest es a.page_id a.to_frame) cut)
