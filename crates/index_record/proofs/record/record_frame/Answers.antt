use Rattle.std.proofs.Common.{arith, sym, ◌∙◌, ◌+◌, length}
use Rattle.std.proofs.lemmas.Result.{err_from_is_err_and}
use Rattle.wal_types.proofs.Refusals.{number_not_zero}
use Rattle.index_hash.proofs.Empty.{found_below}
use Rattle.index_find.specs.Index.{block_of, place_of}
use Rattle.index_end.proofs.Turns.{order_front}
use Rattle.index_record.proofs.Entered.{length_cleared, first_hash, first_named}
use Rattle.index_find.proofs.Blocks.{length_with}
use lib.Seq.{length-take-le}
use Rattle.index_record.proofs.Placed.{place_found, place_asks, passed_room}
use Rattle.index_record.proofs.Recorded.{record_refused, record_dropped, record_out_of_order, record_full, record_first, record_next}
use Rattle.index_record.proofs.record.record_frame.Goals as goal

pub returns-in_err-check_index : goal.returns-in_err-check_index
returns-in_err-check_index c z p =
    let a = c.args in
    let e = err_from_is_err_and c.from_residual.result c.from_residual.ensures.1 in
    rw (e.1, e.2) (record_refused a.settings.capacity a.settings.max_blocks a.page_id a.frame_id a.grow z a.header.now a.pages.now a.frames.now a.hash.now p _ (sym c.in_err-check_index.ensures) (number_not_zero c.in_err-check_index.field-0.0))

pub place_entry-requires : goal.place_entry-requires
place_entry-requires c =
    let a = c.args in
    place_asks a.settings.capacity a.settings.max_blocks a.frame_id a.header.now (length a.pages.now) (length a.frames.now) (length a.hash.now) (sym c.in_ok-check_index.ensures) _ c.started_cells-start.ensures

pub returns-in_default : goal.returns-in_default
returns-in_default c z p =
    let a = c.args in
    let none = place_found _ _ _ _ _ _ _ _ c.started_cells-start.ensures c.place_entry.ensures c.in_default.is in
    rw (c.put_changes_in.ensures, c.overflowed.ensures, c.started_cells-start.ensures) (record_dropped a.settings.capacity a.settings.max_blocks a.page_id a.frame_id a.grow z a.header.now a.pages.now a.frames.now a.hash.now p (sym c.in_ok-check_index.ensures) none)

pub slice_bounds-is_out_of_order-end : goal.slice_bounds-is_out_of_order-end
slice_bounds-is_out_of_order-end c =
    let a = c.args in
    let at_end = place_found _ _ _ _ _ _ _ _ c.started_cells-start.ensures c.place_entry.ensures c.in-Some.is in
    let r = passed_room a.settings.capacity a.settings.max_blocks a.frame_id a.header.now (length a.pages.now) (length a.frames.now) (length a.hash.now) (sym c.in_ok-check_index.ensures) a.grow _ at_end in
    omega (arith, r.frame_room)

pub slice_bounds-is_out_of_order-end-2 : goal.slice_bounds-is_out_of_order-end-2
slice_bounds-is_out_of_order-end-2 c =
    let a = c.args in
    let at_end = place_found _ _ _ _ _ _ _ _ c.started_cells-start.ensures c.place_entry.ensures c.in-Some.is in
    let r = passed_room a.settings.capacity a.settings.max_blocks a.frame_id a.header.now (length a.pages.now) (length a.frames.now) (length a.hash.now) (sym c.in_ok-check_index.ensures) a.grow _ at_end in
    sym (length-take-le _ a.frames.now (omega (arith, r.frame_room)))

pub returns-then-is_out_of_order : goal.returns-then-is_out_of_order
returns-then-is_out_of_order c z p =
    let a = c.args in
    let passed = sym c.in_ok-check_index.ensures in
    let at_end = place_found _ _ _ _ _ _ _ _ c.started_cells-start.ensures c.place_entry.ensures c.in-Some.is in
    let r = passed_room a.settings.capacity a.settings.max_blocks a.frame_id a.header.now (length a.pages.now) (length a.frames.now) (length a.hash.now) passed a.grow _ at_end in
    let order = sym (order_front a.frames.now _ (omega (arith, r.frame_room)) a.frame_id) ∙ (sym c.is_out_of_order.ensures ∙ c.if-is_out_of_order.true) in
    record_out_of_order a.settings.capacity a.settings.max_blocks a.page_id a.frame_id a.grow z a.header.now a.pages.now a.frames.now a.hash.now p passed _ at_end order

pub clear_block-requires : goal.clear_block-requires
clear_block-requires c =
    let a = c.args in
    let passed = sym c.in_ok-check_index.ensures in
    let at_end = place_found _ _ _ _ _ _ _ _ c.started_cells-start.ensures c.place_entry.ensures c.in-Some.is in
    let r = passed_room a.settings.capacity a.settings.max_blocks a.frame_id a.header.now (length a.pages.now) (length a.frames.now) (length a.hash.now) passed a.grow _ at_end in
    r.hash_room

pub enter-requires : goal.enter-requires
enter-requires c =
    let a = c.args in
    let passed = sym c.in_ok-check_index.ensures in
    let at_end = place_found _ _ _ _ _ _ _ _ c.started_cells-start.ensures c.place_entry.ensures c.in-Some.is in
    let r = passed_room a.settings.capacity a.settings.max_blocks a.frame_id a.header.now (length a.pages.now) (length a.frames.now) (length a.hash.now) passed a.grow _ at_end in
    (rw (c.clear_block.ensures, length_with _ a.hash.now r.hash_room _ length_cleared) r, c.hash_page_id-home.ensures.1)

pub returns-then-n-eq0 : goal.returns-then-n-eq0
returns-then-n-eq0 c z p =
    let a = c.args in
    let passed = sym c.in_ok-check_index.ensures in
    let at_end = place_found _ _ _ _ _ _ _ _ c.started_cells-start.ensures c.place_entry.ensures c.in-Some.is in
    let r = passed_room a.settings.capacity a.settings.max_blocks a.frame_id a.header.now (length a.pages.now) (length a.frames.now) (length a.hash.now) passed a.grow _ at_end in
    let order = sym (order_front a.frames.now _ (omega (arith, r.frame_room)) a.frame_id) ∙ (sym c.is_out_of_order.ensures ∙ c.if-is_out_of_order.false) in
    let n = c.in-Some.grown.frame_index_len in
    let cleared = first_hash (block_of n) c.hash_page_id-home.result (place_of n + 1) a.hash.now _ r.hash_room c.clear_block.ensures in
    let e = c.enter.ensures in
    rw (e.header_is, e.pages_are, e.frames_are, e.hash_is, cleared, c.hash_page_id-home.ensures.0, ← first_named a.page_id n c.if-n-eq0.true)
    (record_first a.settings.capacity a.settings.max_blocks a.page_id a.frame_id a.grow z a.header.now a.pages.now a.frames.now a.hash.now p passed _ at_end order c.if-n-eq0.true r.hash_room)

pub cell_in_block-requires : goal.cell_in_block-requires
cell_in_block-requires c =
    let a = c.args in
    let passed = sym c.in_ok-check_index.ensures in
    let at_end = place_found _ _ _ _ _ _ _ _ c.started_cells-start.ensures c.place_entry.ensures c.in-Some.is in
    let r = passed_room a.settings.capacity a.settings.max_blocks a.frame_id a.header.now (length a.pages.now) (length a.frames.now) (length a.hash.now) passed a.grow _ at_end in
    r.hash_room

pub returns-in_default-cell_in_block : goal.returns-in_default-cell_in_block
returns-in_default-cell_in_block c z p =
    let a = c.args in
    let passed = sym c.in_ok-check_index.ensures in
    let at_end = place_found _ _ _ _ _ _ _ _ c.started_cells-start.ensures c.place_entry.ensures c.in-Some.is in
    let r = passed_room a.settings.capacity a.settings.max_blocks a.frame_id a.header.now (length a.pages.now) (length a.frames.now) (length a.hash.now) passed a.grow _ at_end in
    let order = sym (order_front a.frames.now _ (omega (arith, r.frame_room)) a.frame_id) ∙ (sym c.is_out_of_order.ensures ∙ c.if-is_out_of_order.false) in
    record_full a.settings.capacity a.settings.max_blocks a.page_id a.frame_id a.grow z a.header.now a.pages.now a.frames.now a.hash.now p passed _ at_end order c.if-n-eq0.false (sym c.cell_in_block.ensures ∙ c.in_default-cell_in_block.is)

pub enter-requires-2 : goal.enter-requires-2
enter-requires-2 c =
    let a = c.args in
    let passed = sym c.in_ok-check_index.ensures in
    let at_end = place_found _ _ _ _ _ _ _ _ c.started_cells-start.ensures c.place_entry.ensures c.in-Some.is in
    let r = passed_room a.settings.capacity a.settings.max_blocks a.frame_id a.header.now (length a.pages.now) (length a.frames.now) (length a.hash.now) passed a.grow _ at_end in
    (r, found_below _ _ _ (sym c.cell_in_block.ensures ∙ c.in-Some-cell_in_block.is))

pub returns : goal.returns
returns c z p =
    let a = c.args in
    let passed = sym c.in_ok-check_index.ensures in
    let at_end = place_found _ _ _ _ _ _ _ _ c.started_cells-start.ensures c.place_entry.ensures c.in-Some.is in
    let r = passed_room a.settings.capacity a.settings.max_blocks a.frame_id a.header.now (length a.pages.now) (length a.frames.now) (length a.hash.now) passed a.grow _ at_end in
    let order = sym (order_front a.frames.now _ (omega (arith, r.frame_room)) a.frame_id) ∙ (sym c.is_out_of_order.ensures ∙ c.if-is_out_of_order.false) in
    let e = c.enter-2.ensures in
    rw (e.header_is, e.pages_are, e.frames_are, e.hash_is)
    (record_next a.settings.capacity a.settings.max_blocks a.page_id a.frame_id a.grow z a.header.now a.pages.now a.frames.now a.hash.now p passed _ at_end _ order c.if-n-eq0.false r.hash_room (sym c.cell_in_block.ensures ∙ c.in-Some-cell_in_block.is))
