use Rattle.std.proofs.Common.{arith}
use Rattle.index_find.specs.Find.{blocks_for}
use Rattle.index_find.proofs.Blockwise.{cells_most}
use Rattle.index_find.proofs.find.Lookup.find.Goals as goal

pub overflow_add-result : goal.overflow_add-result
overflow_add-result c =
    let a = c.args.self.now in
    let r = a.blocks_fit in
    let told = c.in-Left.ensures in
    let most = cells_most a.visible_slots a.pages.now a.frames.now a.hash.now a.page_id a.min_frame a.max_frame (blocks_for a.visible_slots) in
    omega (arith, r.blocks_most, most, told.1.1, c.find_along_runs-rest.ensures.1)
