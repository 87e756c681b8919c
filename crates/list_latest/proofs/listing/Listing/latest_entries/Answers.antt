use Rattle.std.proofs.Common.{ap, ◌∙◌, arith, length-take}
use Rattle.list_choose.specs.Chosen.{in_bounds, firsts}
use Rattle.list_latest.proofs.Put.{latest_chosen}
use Rattle.list_latest.proofs.listing.Listing.latest_entries.Goals as goal

pub returns : goal.returns
returns c =
    let s = c.args.self.now in
    let t = length-take c.gather-count.result c.gather-count.new.list in
    (omega arith, c.choose.ensures.1 ∙ ap (in_bounds s.visible.frames.now s.min_frame s.max_frame) (ap (firsts s.visible.pages.now) c.sort_by_page.ensures ∙ latest_chosen _ _ _ _ s.pages_fit c.gather-count.ensures.1))
